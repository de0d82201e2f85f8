use Rattle.std.proofs.Common.{◌≡◌, length}
use Rattle.tables.specs.Trails.{trail, forward, undo, over_back}
use Rattle.tables.proofs.Writing.{behind}
use Rattle.tables.proofs.table.Table.undo.Given as goal

-- what is still to be written gives what was asked for
abbrev pub invariant-loop-i : goal.invariant-loop-i
invariant-loop-i l =
    over_back (undo (forward (trail l.self (length l.initial.row) l.load))) l.initial.row
    ≡ behind l.i (trail l.self l.i l.at) l.row
