use Rattle.std.proofs.Common.{◌≡◌, drop}
use Rattle.adoption.specs.declared.fault.TableFault.TheVariants.{NotFalling}
use Rattle.adoption.specs.Tables.{each, rules_fall}
use Rattle.adoption.proofs.rules.check_falls.Given as goal

-- the rules that are left give what was asked for
abbrev pub invariant-loop-i : goal.invariant-loop-i
invariant-loop-i g l =
    let above = g.O.Order.above l.order in
    rules_fall above l.rules ≡ each (λ _ r. above r.left r.right) NotFalling l.i (drop l.i l.rules)
