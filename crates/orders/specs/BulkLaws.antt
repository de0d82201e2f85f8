-- Bulk keeps the laws: the key is the row of the totals of the first 8, 7, .., 0 articles. Where the first n + 1 have level totals, more of the first n
-- is fewer of the last.
use Rattle.std.specs.Prelude.{◌≡◌, ℕ, zero, suc, ◌+◌, ◌<◌, refl}
use Rattle.std.proofs.Common.{◌∙◌, inl, inr, arith}
use Rattle.std.specs.List.{AllByRecursion}
use Rattle.std.proofs.lemmas.Bool.{cases_eq}
use Rattle.std.proofs.lemmas.Bool.Decides.{nat_tests}
use Rattle.loads.specs.declared.Load.{Load}
use Rattle.loads.specs.Loads.{at}
use Rattle.loads.specs.Totals.{sum_below}
use Rattle.loads.proofs.Algebra.{at-empty, at-plus}
use Rattle.loads.proofs.Summing.{sum_more, sum_like, sum-plus, sum_zero}
use Rattle.orders.specs.Laws.{Relation, Admissible}
use Rattle.orders.specs.Relations.{levelled, first_larger, turned, down, bulk}
use Rattle.orders.specs.Places.{all_down}
use Rattle.orders.specs.Rows.{row, row_above}
use Rattle.orders.specs.Keys.{Additive, by_row, laws_like}

-- the total of the first n articles
abbrev front : Load → ℕ → ℕ
front x n = sum_below n (at x)

-- that total adds up
front_adds : (n : ℕ) → Additive 0 ◌+◌ (λ x. front x n)
front_adds n = record { of_empty = sum_zero n at-empty; of_plus = λ x y. sum_like n (at-plus x y) ∙ sum-plus n (at x) (at y) }

-- the totals of the first n - 1, .., 0 articles, compared one after another
abbrev by_fronts : ℕ → Relation
by_fronts n x y = row_above (down n) (row (down n) (front x)) (row (down n) (front y))

-- with level totals of n articles, the totals before them rank as the counts do, from the last on, the other way round
fronts : (x y : Load) (n : ℕ) → front x n ≡ front y n → by_fronts n x y ≡ first_larger (down n) y x
fronts x y zero e = refl
fronts x y (suc n) e = elim (cases_eq (front x n) (front y n)) [
  | inl h ↦ let ih = fronts x y n h in grind (arith, nat_tests)
  | inr h ↦ grind (arith, nat_tests)
]

-- and with the total of n articles before them, they rank as bulk does
totals : (x y : Load) (n : ℕ) → by_fronts (suc n) x y ≡ levelled (λ z. front z n) (turned (first_larger (down n))) x y
totals x y n = elim (cases_eq (front x n) (front y n)) [ inl e ↦ let h = fronts x y n e in grind (arith, nat_tests) | inr ne ↦ grind (arith, nat_tests) ]

-- a count is what one more article adds
told : (x y : Load) → AllByRecursion (λ n. front x n ≡ front y n) (down 9) → (k : ℕ) → k < 8 → at x k ≡ at y k
told x y h k l =
    let level = all_down (λ n. front x n ≡ front y n) 9 h in
    omega (arith, sum_more k (at x), sum_more k (at y), level k (omega arith), level (k + 1) (omega arith))

-- bulk keeps the five laws
pub bulk_laws : Admissible bulk
unfolding bulk
bulk_laws = laws_like (λ x y. totals x y 8) (by_row front (down 9) front_adds told)
