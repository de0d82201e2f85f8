use Rattle.std.proofs.Common.{◌≡◌, ◌-◌, ◌≤◌, length, drop}
use Rattle.loads.specs.Bits.{bits}
use Rattle.loads.proofs.presence.presence_of.Given as goal

-- the bits of the last counts, which were yielded
abbrev pub invariant-loop-count : goal.invariant-loop-count
invariant-loop-count l = (length l.yielded ≤ length l.counts) × (l.bits ≡ bits (drop (length l.counts - length l.yielded) l.counts))
