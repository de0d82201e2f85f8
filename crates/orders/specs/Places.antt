-- The places of the articles, as a loop takes them.
use Rattle.std.specs.Prelude.{◌≡◌, ℕ, zero, suc, ◌+◌, ◌-◌, ◌<◌, ◌≤◌, [], ◌∷◌}
use Rattle.std.proofs.Common.{ap, inl, inr, arith}
use Rattle.std.specs.List.{range_with_len, AllByRecursion}
use Rattle.std.proofs.lemmas.Bool.{cases_eq}
use Rattle.orders.specs.Relations.{down}

-- those from i up to n
pub up_more : (i n : ℕ) → i < n → range_with_len i (n - i) ≡ i ∷ range_with_len (i + 1) (n - (i + 1))
up_more i n l = let e : n - i ≡ suc (n - (i + 1)) = omega arith in ap (range_with_len i) e

pub up_none : (i n : ℕ) → n ≤ i → range_with_len i (n - i) ≡ []
up_none i n l = let e : n - i ≡ 0 = omega arith in ap (range_with_len i) e

-- those below i, from the last on
pub down_more : (i : ℕ) → 0 < i → down i ≡ (i - 1) ∷ down (i - 1)
down_more zero l = absurd (omega arith)
down_more (suc n) l = let e : n ≡ suc n - 1 = omega arith in ap (λ k. k ∷ down k) e

pub down_none : (i : ℕ) → i ≤ 0 → down i ≡ []
down_none i l = let e : i ≡ 0 = omega arith in ap down e

-- what holds at each place that is passed on the way down
pub all_down : (P : ℕ → Type 0) (n : ℕ) → AllByRecursion P (down n) → (k : ℕ) → k < n → P k
all_down P zero h k l = absurd (omega arith)
all_down P (suc n) h k l = elim (cases_eq k n) [ inl e ↦ rw e h.0 | inr ne ↦ all_down P n h.1 k (omega arith) ]
