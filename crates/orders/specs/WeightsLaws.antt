-- Weights keep the laws if the order below does: the key is the sum of weight × count beside the load.
use Rattle.std.proofs.Common.{ap, ◌∙◌, mul-add, mul-zero}
use Rattle.std.specs.Prelude.{ℕ, ◌+◌, ◌*◌, List, nat_eq, slice_index}
use Rattle.std.proofs.lemmas.Bool.Decides.{Decides-eqb}
use Rattle.loads.specs.Loads.{at}
use Rattle.loads.proofs.Algebra.{at-empty, at-plus}
use Rattle.loads.proofs.Summing.{sum_like, sum-plus, sum_zero}
use Rattle.orders.specs.Laws.{Relation, Admissible}
use Rattle.orders.specs.Relations.{weighed, weighted}
use Rattle.orders.specs.Pairs.{pairs}
use Rattle.orders.specs.Rankings.{loads, numbers}
use Rattle.orders.specs.Keys.{Additive, itself, both, by_key}

-- the sum of weight × count adds up
weighed_adds : (ws : List ℕ) → Additive 0 ◌+◌ (weighed ws)
unfolding weighed
weighed_adds ws =
    record {
      of_empty = sum_zero 8 (λ k. ap (λ n. slice_index ws k * n) (at-empty k) ∙ mul-zero (slice_index ws k));
      of_plus = λ x y.
          sum_like 8 (λ k. ap (λ n. slice_index ws k * n) (at-plus x y k) ∙ mul-add (slice_index ws k) (at x k) (at y k))
          ∙ sum-plus 8 (λ k. slice_index ws k * at x k) (λ k. slice_index ws k * at y k);
    }

-- weights over an order keep the five laws
pub weighted_laws : (ws : List ℕ) {below : Relation} → Admissible below → Admissible (weighted ws below)
weighted_laws ws laws = by_key (λ x. (weighed ws x, x)) (pairs nat_eq Decides-eqb numbers (loads laws)) (both (weighed_adds ws) itself) (λ x y e i. (e i).1)
