use Rattle.std.proofs.Common.{◌≡◌, ◌+◌, ◌≤◌, length, drop}
use Rattle.worksheet.specs.Derivations.{derivations, lengths}
use Rattle.adoption.specs.Worksheets.{lines_replay}
use Rattle.adoption.proofs.Loops.{replays_from}
use Rattle.adoption.proofs.lines.replay_lines.Given as goal

-- the lines that are left have their numbers, and replaying them gives what was asked for
abbrev pub invariant-loop-i : goal.invariant-loop-i
invariant-loop-i l =
    (l.start + lengths (drop l.i l.lines) ≤ length l.chain)
    × (lines_replay l.book (derivations l.lines l.chain) ≡ replays_from l.book l.lines l.chain l.i l.start)
