use Rattle.std.proofs.Common.{◌≡◌, ℕ, ◌<◌, ◌≤◌, length}
use Rattle.loads.specs.Loads.{at}
use Rattle.loads.proofs.Load.contains.Given as goal

-- nothing was lacking exactly if `lack` is 0
abbrev pub invariant-loop-mine : goal.invariant-loop-mine
invariant-loop-mine l =
    (l.lack ≡ 0 → (k : ℕ) → k < length l.yielded → at l.other k ≤ at l.self k)
    × (((k : ℕ) → k < length l.yielded → at l.other k ≤ at l.self k) → l.lack ≡ 0)
