-- Listed keeps the laws: the key is the row of counts.
use Rattle.std.specs.Prelude.{◌≡◌, ℕ, ◌<◌}
use Rattle.std.proofs.Common.{zero-add}
use Rattle.std.specs.List.{range_with_len, AllByRecursion}
use Rattle.std.proofs.lemmas.List.FromFn.{get_or-range_with_len}
use Rattle.std.proofs.ByRecursion.{All-get_or}
use Rattle.loads.specs.declared.Load.{Load}
use Rattle.loads.specs.Loads.{at}
use Rattle.loads.proofs.Algebra.{at-empty, at-plus}
use Rattle.orders.specs.Laws.{Admissible}
use Rattle.orders.specs.Relations.{listed}
use Rattle.orders.specs.Keys.{by_row}

-- listed keeps the five laws
pub listed_laws : Admissible listed
unfolding listed
listed_laws = by_row at (range_with_len 0 8) (λ p. record { of_empty = at-empty p; of_plus = λ x y. at-plus x y p }) told
  where
    -- equal rows have equal counts
    told : (x y : Load) → AllByRecursion (λ p. at x p ≡ at y p) (range_with_len 0 8) → (k : ℕ) → k < 8 → at x k ≡ at y k
    told x y h k l = rw (get_or-range_with_len 0 8 k 0, zero-add) at (All-get_or (λ p. at x p ≡ at y p) (range_with_len 0 8) k 0 l h)
