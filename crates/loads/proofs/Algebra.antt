-- Loads by their counts: what `omega` needs to prove any equation of sums, differences and common parts.
use Rattle.std.proofs.Common.{◌≡◌, ℕ, ◌+◌, ◌-◌, ◌<◌, ◌≤◌, min, T, eqb, List, length, get_or, sym, refl, ap, ◌∙◌, inl, inr, arith, eqb→eq}
use mathlib.Core.HLevel.{is_prop→PathP}
use native.Mathlib.Nat.{ℕ_set}
use lib.Dec.{T_prop}
use Rattle.std.proofs.lemmas.List.{ext_get_or, get_or_past}
use Rattle.std.proofs.lemmas.List.FromFn.{get_or-map-range_with_len}
use Rattle.std.proofs.lemmas.Bool.{cases_lt}
use Rattle.loads.specs.declared.Load.{Load}
use Rattle.loads.specs.Bits.{bits}
use Rattle.loads.specs.Loads.{at, load_of, of_counts, empty, plus, minus, shared}

pub long : (x : Load) → length x.counts ≡ 8
long x = eqb→eq (length x.counts) 8 x.eight

-- past the eighth article there is nothing
pub past : (x : Load) (k : ℕ) → 8 ≤ k → at x k ≡ 0
past x k h = get_or_past x.counts k 0 (omega (arith, long x))

-- a load made by a function has that function's counts, where the function is 0 past the eighth place
pub at-load_of : (f : ℕ → ℕ) → ((k : ℕ) → 8 ≤ k → f k ≡ 0) → (k : ℕ) → at (load_of f) k ≡ f k
at-load_of f z k = elim (cases_lt k 8) [
  | inl h ↦ get_or-map-range_with_len f 0 8 k k 0 h (omega arith)
  | inr h ↦ get_or_past (load_of f).counts k 0 h ∙ sym (z k h)
]

pub at-empty : (k : ℕ) → at empty k ≡ 0
at-empty = at-load_of (λ _. 0) (λ _ _. refl)

-- a load made of eight counts
pub at-of_counts : (cs : List ℕ) → length cs ≡ 8 → (k : ℕ) → at (of_counts cs) k ≡ get_or cs k 0
at-of_counts cs e = at-load_of (λ k. get_or cs k 0) (λ k h. get_or_past cs k 0 (omega (arith, e)))

pub at-plus : (x y : Load) (k : ℕ) → at (plus x y) k ≡ at x k + at y k
at-plus x y = at-load_of (λ k. at x k + at y k) (λ k h. omega (arith, past x k h, past y k h))

pub at-minus : (x y : Load) (k : ℕ) → at (minus x y) k ≡ at x k - at y k
at-minus x y = at-load_of (λ k. at x k - at y k) (λ k h. omega (arith, past x k h, past y k h))

pub at-shared : (x y : Load) (k : ℕ) → at (shared x y) k ≡ min (at x k) (at y k)
at-shared x y = at-load_of (λ k. min (at x k) (at y k)) (λ k h. omega (arith, past x k h, past y k h))

-- what `omega` reads of a load's counts: write `same (λ k. omega (counts, h k))`
pub ruleset counts = (arith, at-empty, at-plus, at-minus, at-shared)

-- a load is its counts
pub load_same : (x y : Load) → x.counts ≡ y.counts → x ≡ y
load_same x y p =
    let e : x.presence ≡ y.presence = x.present ∙ ap bits p ∙ sym y.present in
    λ i. record {
      counts = p i;
      presence = e i;
      eight = is_prop→PathP (λ j. T (eqb (length (p j)) 8)) (λ j. T_prop (eqb (length (p j)) 8)) x.eight y.eight i;
      present = is_prop→PathP (λ j. e j ≡ bits (p j)) (λ j. ℕ_set (e j) (bits (p j))) x.present y.present i;
    }

-- loads with the same eight counts, as a loop has them
pub same_eight : {x y : Load} → ((k : ℕ) → k < 8 → at x k ≡ at y k) → x ≡ y
same_eight {x} {y} h = load_same x y (ext_get_or 0 x.counts y.counts (long x ∙ sym (long y)) (λ k l. h k (omega (arith, long x))))

-- loads with the same count at every place
pub same : {x y : Load} → ((k : ℕ) → at x k ≡ at y k) → x ≡ y
same h = same_eight (λ k _. h k)

-- the counts of equal loads
pub count : {x y : Load} → x ≡ y → (k : ℕ) → at x k ≡ at y k
count e k = ap (λ (z : Load). at z k) e
