use Rattle.std.proofs.Common.{sym, ◌∙◌, arith}
use Rattle.adoption.specs.declared.fault.TableFault.TheVariants.{NotReduced}
use Rattle.adoption.specs.Tables.{reduced_at}
use Rattle.adoption.proofs.Loops.{each-end, each_stop, each_next}
use Rattle.adoption.proofs.rules.check_reduced.Goals as goal

pub returns-then-not-is_reduced : goal.returns-then-not-is_reduced
returns-then-not-is_reduced g c =
    let above = g.O.Order.above c.args.order.now in
    sym (c.loop-i.invariant ∙ each_stop (reduced_at above c.args.rules.now) NotReduced c.args.rules.now c.loop-i.i c.index-rules-i.result (omega arith) c.index-rules-i.is c.if-not-is_reduced.ensures)

pub loop-i-preserved : goal.loop-i-preserved
loop-i-preserved g c =
    let above = g.O.Order.above c.args.order.now in
    c.loop-i.invariant ∙ each_next (reduced_at above c.args.rules.now) NotReduced c.args.rules.now c.loop-i.i c.index-rules-i.result (omega arith) c.index-rules-i.is c.if-not-is_reduced.ensures

pub returns : goal.returns
returns g c =
    let above = g.O.Order.above c.args.order.now in
    sym (c.loop-i.invariant ∙ each-end (reduced_at above c.args.rules.now) NotReduced c.args.rules.now c.loop-i.i (omega arith))
