use Rattle.std.proofs.Common.{◌≡◌, ◌+◌, length, drop}
use Rattle.adoption.specs.Worksheets.{even_chains}
use Rattle.adoption.proofs.lines.check_lengths.Given as goal

-- the lines that are left take what is left
abbrev pub invariant-loop-i : goal.invariant-loop-i
invariant-loop-i l = even_chains (length l.book + 1) l.lines l.numbers ≡ even_chains (length l.book + l.i + 1) (drop l.i l.lines) l.left
