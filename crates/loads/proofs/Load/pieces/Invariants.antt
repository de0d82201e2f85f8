use Rattle.std.proofs.Common.{◌≡◌, ℕ, ◌*◌, ◌<◌, ◌≤◌}
use Rattle.loads.specs.Loads.{at}
use Rattle.loads.specs.Totals.{sum_below}
use Rattle.loads.proofs.Load.pieces.Given as goal

-- what is added up, and that each count so far fits
abbrev pub invariant-loop-count : goal.invariant-loop-count
invariant-loop-count l = (l.sum ≡ sum_below l.count-index (at l.self)) × (l.sum ≤ l.count-index * 65535) × ((k : ℕ) → k < l.count-index → at l.self k ≤ 65535)
