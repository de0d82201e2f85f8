use Rattle.std.proofs.Common.{◌≡◌, drop}
use Rattle.adoption.specs.declared.fault.TableFault.TheVariants.{NotReduced}
use Rattle.adoption.specs.Tables.{each, reduced_at, table_reduced}
use Rattle.adoption.proofs.rules.check_reduced.Given as goal

-- the rules that are left give what was asked for
abbrev pub invariant-loop-i : goal.invariant-loop-i
invariant-loop-i g l =
    let above = g.O.Order.above l.order in
    table_reduced above l.rules ≡ each (reduced_at above l.rules) NotReduced l.i (drop l.i l.rules)
