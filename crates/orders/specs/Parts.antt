-- The marked and the unmarked part of a load.
use Rattle.std.specs.Prelude.{◌≡◌, ℕ, Bool, true, false, cond, List, slice_index_or, refl}
use Rattle.std.proofs.Common.{ap, ◌∙◌, inl, inr}
use Rattle.std.specs.Bool.{beq}
use Rattle.std.proofs.lemmas.Bool.{cases_Bool}
use Rattle.loads.specs.declared.Load.{Load}
use Rattle.loads.specs.Loads.{at, empty, plus}
use Rattle.loads.proofs.Algebra.{past, at-load_of, same, count, counts}
use Rattle.orders.specs.Relations.{part}
use Rattle.orders.specs.Keys.{Additive}

-- nothing is left of nothing
either_zero : (b : Bool) (n : ℕ) → n ≡ 0 → cond b n 0 ≡ 0
either_zero true n e = e
either_zero false n e = refl

-- the counts of a part
pub at_part : (ms : List Bool) (side : Bool) (x : Load) (k : ℕ) → at (part ms side x) k ≡ cond (beq (slice_index_or ms k false) side) (at x k) 0
unfolding part
at_part ms side x =
    at-load_of (λ k. cond (beq (slice_index_or ms k false) side) (at x k) 0)
    (λ k h. either_zero (beq (slice_index_or ms k false) side) (at x k) (past x k h))

module _ (ms : List Bool) (side : Bool) where
  -- the test at place k, and what it makes of every load
  in_part : (k : ℕ) → beq (slice_index_or ms k false) side ≡ true → (x : Load) → at (part ms side x) k ≡ at x k
  in_part k e x = at_part ms side x k ∙ ap (λ b. cond b (at x k) 0) e

  out_of_part : (k : ℕ) → beq (slice_index_or ms k false) side ≡ false → (x : Load) → at (part ms side x) k ≡ 0
  out_of_part k e x = at_part ms side x k ∙ ap (λ b. cond b (at x k) 0) e

  -- a part adds up
  pub part_adds : Additive empty plus (part ms side)
  part_adds =
      record {
        of_empty = same (λ k. elim (cases_Bool (beq (slice_index_or ms k false) side)) [ inl e ↦ in_part k e empty | inr e ↦ omega (counts, out_of_part k e empty) ]);
        of_plus = λ x y. same (λ k. elim (cases_Bool (beq (slice_index_or ms k false) side)) [
          | inl e ↦ omega (counts, in_part k e (plus x y), in_part k e x, in_part k e y)
          | inr e ↦ omega (counts, out_of_part k e (plus x y), out_of_part k e x, out_of_part k e y)
        ]);
      }

-- a load is its two parts
pub part_both : (ms : List Bool) (x y : Load) → part ms true x ≡ part ms true y → part ms false x ≡ part ms false y → x ≡ y
part_both ms x y p q = same (λ k. go k (slice_index_or ms k false) refl)
  where
    go : (k : ℕ) (b : Bool) → slice_index_or ms k false ≡ b → at x k ≡ at y k
    go k true e = let t = ap (λ c. beq c true) e in omega (counts, in_part ms true k t x, in_part ms true k t y, count p k)
    go k false e = let t = ap (λ c. beq c false) e in omega (counts, in_part ms false k t x, in_part ms false k t y, count q k)
