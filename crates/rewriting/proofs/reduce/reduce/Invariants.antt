use Rattle.std.proofs.Common.{◌≡◌, ◌-◌, ◌≤◌}
use Rattle.rewriting.specs.Reducing.{reduce, told}
use Rattle.rewriting.proofs.Stepping.{rest}
use Rattle.rewriting.proofs.reduce.reduce.Given as goal

-- what is left to reduce gives what was asked for
abbrev pub invariant-loop-place : goal.invariant-loop-place
invariant-loop-place l =
    (told (reduce l.table l.budget l.load) ≡ rest (l.budget - l.left) (reduce l.table l.left l.at))
    × (l.left ≤ l.budget)

abbrev pub decreases-loop-place : goal.decreases-loop-place
decreases-loop-place l = l.left
