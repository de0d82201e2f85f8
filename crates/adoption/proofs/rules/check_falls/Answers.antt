use Rattle.std.proofs.Common.{sym, ◌∙◌, arith}
use Rattle.adoption.specs.declared.fault.TableFault.TheVariants.{NotFalling}
use Rattle.adoption.proofs.Loops.{each-end, each_stop, each_next}
use Rattle.adoption.proofs.rules.check_falls.Goals as goal

pub returns-then-not-higher : goal.returns-then-not-higher
returns-then-not-higher g c =
    let above = g.O.Order.above c.args.order.now in
    sym (c.loop-i.invariant ∙ each_stop (λ _ r. above r.left r.right) NotFalling c.args.rules.now c.loop-i.i c.index-rules-i.result (omega arith) c.index-rules-i.is c.if-not-higher.ensures)

pub loop-i-preserved : goal.loop-i-preserved
loop-i-preserved g c =
    let above = g.O.Order.above c.args.order.now in
    c.loop-i.invariant ∙ each_next (λ _ r. above r.left r.right) NotFalling c.args.rules.now c.loop-i.i c.index-rules-i.result (omega arith) c.index-rules-i.is c.if-not-higher.ensures

pub returns : goal.returns
returns g c =
    let above = g.O.Order.above c.args.order.now in
    sym (c.loop-i.invariant ∙ each-end (λ _ r. above r.left r.right) NotFalling c.args.rules.now c.loop-i.i (omega arith))
