use Rattle.std.proofs.Common.{◌≡◌, ℕ, ◌<◌, length, get_or, pos, ◌-ℤ◌}
use Rattle.loads.specs.Loads.{at}
use Rattle.worksheet.proofs.net.net.Given as goal

-- the articles before i are done
abbrev pub invariant-loop-i : goal.invariant-loop-i
invariant-loop-i l = (length l.count-items ≡ 8) × ((k : ℕ) → k < l.i → get_or l.count-items k (pos 0) ≡ pos (at l.end k) -ℤ pos (at l.start k))
