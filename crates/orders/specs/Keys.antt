-- An order of loads from a key: a value of each load that adds up, tells loads apart, and is ranked by a relation that keeps the laws.
use Rattle.std.specs.Prelude.{◌≡◌, ℕ, ◌+◌, ◌<◌, Bool, List, refl}
use Rattle.std.proofs.Common.{sym, ap, subst, ◌∙◌}
use mathlib.Core.WellFounded.InvImage
use Rattle.std.specs.List.{AllByRecursion}
use Rattle.loads.specs.declared.Load.{Load}
use Rattle.loads.specs.Loads.{at, empty, plus}
use Rattle.loads.proofs.Algebra.{same_eight}
use Rattle.orders.specs.Laws.{Relation, is_first, is_second, is_third, Admissible}
use Rattle.orders.specs.Rankings.{Ranks, Ranking}
use Rattle.orders.specs.Rows.{row, row_above, rows, row_like, row_sum, row_told}

-- a value that adds up
pub record Additive {K : Type 0} (none : K) (sum : K → K → K) (key : Load → K) : Type 0 where
  pub of_empty : key empty ≡ none
  pub of_plus : (x y : Load) → key (plus x y) ≡ sum (key x) (key y)

-- the load itself
pub itself : Additive empty plus (λ x. x)
itself = record { of_empty = refl; of_plus = λ x y. refl }

-- two values
pub both : {K L : Type 0} {none₁ : K} {none₂ : L} {sum₁ : K → K → K} {sum₂ : L → L → L} {f : Load → K} {g : Load → L}
    → Additive none₁ sum₁ f → Additive none₂ sum₂ g → Additive {K = K × L} (none₁, none₂) (λ p q. (sum₁ p.0 q.0, sum₂ p.1 q.1)) (λ x. (f x, g x))
both a b = record { of_empty = λ i. (a.of_empty i, b.of_empty i); of_plus = λ x y i. (a.of_plus x y i, b.of_plus x y i) }

-- loads ranked by their keys
pub by_key : {K : Type 0} {none : K} {sum : K → K → K} {above : K → K → Bool} (key : Load → K)
    → Ranking none sum above → Additive none sum key → ((x y : Load) → key x ≡ key y → x ≡ y) → Admissible (λ x y. above (key x) (key y))
by_key {above = above} key r a apart =
    record {
      one = λ x y. which x y (r.one (key x) (key y));
      trans = λ x y z. r.trans (key x) (key y) (key z);
      adds = λ x y w h. rw (a.of_plus x w, a.of_plus y w) (r.adds (key x) (key y) (key w) h);
      least = λ x ne. rw a.of_empty (r.least (key x) (λ e. ne (apart x empty (e ∙ sym a.of_empty))));
      ends = λ x. InvImage.accessible key (r.ends (key x));
    }
  where
    which : (x y : Load) → Ranks above (key x) (key y) → Ranks (λ v w. above (key v) (key w)) x y
    which x y (is_first h nb nc) = is_first h nb (λ e. nc (ap key e))
    which x y (is_second na h nc) = is_second na h (λ e. nc (ap key e))
    which x y (is_third na nb h) = is_third na nb (apart x y h)

-- loads ranked by a row of numbers that add up and tell the eight counts
pub by_row : (f : Load → ℕ → ℕ) (ps : List ℕ) → ((p : ℕ) → Additive 0 ◌+◌ (λ x. f x p))
    → ((x y : Load) → AllByRecursion (λ p. f x p ≡ f y p) ps → (k : ℕ) → k < 8 → at x k ≡ at y k) → Admissible (λ x y. row_above ps (row ps (f x)) (row ps (f y)))
by_row f ps adds told =
    by_key (λ x. row ps (f x)) (rows ps)
    (record { of_empty = row_like ps (λ p. (adds p).of_empty); of_plus = λ x y. row_like ps (λ p. (adds p).of_plus x y) ∙ row_sum ps (f x) (f y) })
    (λ x y e. same_eight (told x y (row_told ps (f x) (f y) e)))

-- the relation may be written another way
pub laws_like : {above over : Relation} → ((x y : Load) → above x y ≡ over x y) → Admissible above → Admissible over
laws_like e laws = subst Admissible (λ i x y. e x y i) laws
