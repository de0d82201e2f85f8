-- A member of a row and its place; what holds of any two places.
use Rattle.std.proofs.Common.{◌≡◌, ℕ, suc, ◌<◌, ◌⊎◌, List, [], ◌∷◌, length, sym, ap, ◌∙◌, inl, inr, arith}
use Rattle.std.proofs.lemmas.Bool.{cases_order}
use Rattle.worksheet.specs.declared.equation.Equation.{Equation}
use Rattle.rewriting.specs.Swaps.{In}
use Rattle.rewriting.specs.Settled.{place}

-- a member stands at a place
record Placed (p : Equation) (t : List Equation) : Type 0 where
  index : ℕ
  within : index < length t
  found : p ≡ place t index

placed : (p : Equation) (t : List Equation) → In p t → Placed p t
placed p [] m = absurd m
placed p (q ∷ t) (inl e) = record { index = 0; within = omega arith; found = e }
placed p (q ∷ t) (inr m) = let r = placed p t m in record { index = suc r.index; within = omega arith; found = r.found }

-- what holds of the pairs at any two places, the lower first, holds one way round or the other of any two members that are not the same
pub members : (t : List Equation) (R : Equation → Equation → Type 0) → ((i j : ℕ) → i < j → j < length t → R (place t i) (place t j))
    → (p q : Equation) → In p t → In q t → (p ≡ q) ⊎ (R p q ⊎ R q p)
members t R h p q m n = go (cases_order i.index j.index)
  where
    i : Placed p t
    i = placed p t m

    j : Placed q t
    j = placed q t n

    go : ((i.index ≡ j.index) ⊎ ((i.index < j.index) ⊎ (j.index < i.index))) → (p ≡ q) ⊎ (R p q ⊎ R q p)
    go (inl e) = inl (i.found ∙ ap (place t) e ∙ sym j.found)
    go (inr (inl l)) = inr (inl (rw (i.found, j.found) (h i.index j.index l j.within)))
    go (inr (inr l)) = inr (inr (rw (i.found, j.found) (h j.index i.index l i.within)))
