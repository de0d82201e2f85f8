use Rattle.std.proofs.Common.{◌≡◌, ◌-◌, length}
use Rattle.tables.specs.Trails.{trail, forward, over_front}
use Rattle.tables.proofs.Writing.{ahead}
use Rattle.tables.proofs.table.Table.follow.Given as goal

-- what is still to be written gives what was asked for
abbrev pub invariant-loop-place : goal.invariant-loop-place
invariant-loop-place l =
    over_front (forward (trail l.self (length l.initial.row) l.load)) l.initial.row
    ≡ ahead l.place-index (trail l.self (length l.initial.row - l.place-index) l.at) l.row
