use Rattle.std.proofs.Common.{◌≡◌, ◌+◌, drop}
use Rattle.worksheet.specs.Claims.{claimed}
use Rattle.worksheet.specs.Replay.{replay}
use Rattle.worksheet.proofs.lines.Lines.replay.Given as goal

-- what is still to be followed gives what was asked for
abbrev pub invariant-loop-i : goal.invariant-loop-i
invariant-loop-i l = replay (claimed l.self) 1 l.chain l.load ≡ replay (claimed l.self) (l.i + 1) (drop l.i l.chain) l.at
