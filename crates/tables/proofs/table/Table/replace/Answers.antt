use Rattle.std.proofs.Common.{vec_items, arith}
use Rattle.tables.proofs.Citing.{citable-set}
use Rattle.tables.proofs.table.Table.replace.Goals as goal

pub invariant_of-self : goal.invariant_of-self
invariant_of-self c =
    let was = c.self.invariant in
    record { room = was.room; few = was.few; cited = citable-set (vec_items c.self.inside.rules) c.args.place c.args.rule (omega arith) was.cited }
