-- Numbers that are capacities.
use Rattle.std.specs.Prelude.{◌≡◌, ℕ, Bool, true, false, ◌&&◌, MatchResult, Result, nat_le}
use Rattle.completion.specs.declared.capacity.Capacity.{Capacity}
use Rattle.completion.specs.declared.capacity.NoCapacity.{NoCapacity}

-- from 1 to 128
abbrev pub in_limits : ℕ → Bool
in_limits n = nat_le 1 n && nat_le n 128

-- a number within the limits is a capacity of so many rules; any other is handed back
abbrev pub Limits : ℕ → Result Capacity NoCapacity → Type 0
Limits n r = MatchResult r (λ c. (in_limits n ≡ true) × (c.rules ≡ n)) (λ e. (in_limits n ≡ false) × (e.0 ≡ n))
