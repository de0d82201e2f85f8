-- The fifth law, and its plain reading: what is accessible starts no endless row.
use Rattle.std.proofs.Common.{◌≡◌, ℕ, suc, true, refl}
use mathlib.Core.WellFounded.{Acc}
use Rattle.loads.specs.declared.Load.{Load}
use Rattle.orders.specs.Laws.{Relation, Admissible, NoEndlessRow}

-- below every load all rows come to an end: what the layers above take from the fifth law
pub all_end : {above : Relation} → Admissible above → (x : Load) → Acc (λ y z. above z y ≡ true) x
all_end laws = laws.ends

-- a row that starts at an accessible load does not fall for ever
starts_none : (above : Relation) {x : Load} → Acc (λ y z. above z y ≡ true) x → (row : ℕ → Load) → row 0 ≡ x
    → ¬ ((n : ℕ) → above (row n) (row (suc n)) ≡ true)
starts_none above (Acc.intro x h) row e falls = starts_none above (h (row 1) (rw e at (falls 0))) (λ n. row (suc n)) refl (λ n. falls (suc n))

-- so no row of loads falls for ever
pub no_endless_row : {above : Relation} → Admissible above → NoEndlessRow above
no_endless_row {above} laws row = starts_none above (all_end laws (row 0)) row refl
