use Rattle.std.proofs.Common.{vec_items, ap, ◌∙◌, arith}
use Rattle.tables.specs.Citing.{citable}
use Rattle.tables.proofs.Citing.{citable-enter}
use Rattle.tables.proofs.table.Table.put.Goals as goal

pub invariant_of-self : goal.invariant_of-self
invariant_of-self g c =
    let cited = citable-enter (g.O.Order.above c.args.order.now) c.args.rule (vec_items c.self.inside.rules) (omega arith) c.self.invariant.cited in
    record { room = omega arith; few = omega arith; cited = ap citable c.put_in.ensures.items ∙ cited }
