-- What the bytes hold, and what they do not.
use Rattle.std.proofs.Common.{◌≡◌, ℕ, ◌+◌, ◌<◌, ◌≤◌, Bool, true, false, cond, leb, List, length, Some, None, Option, refl, arith}
use Rattle.std.proofs.lemmas.Bool.{leb-true, leb-false, le-leb}
use Rattle.swapfile.specs.Sections.{held}

-- what is there because the bytes hold it
pub held_there : {X : Type 0} (n m : ℕ) (x : X) (o : Option X) → Some x ≡ cond (leb n m) o None → (n ≤ m) × (Some x ≡ o)
held_there {X} n m x o e = by_test (leb n m) refl e
  where
    by_test : (t : Bool) → leb n m ≡ t → Some x ≡ cond t o None → (n ≤ m) × (Some x ≡ o)
    by_test true l c = (leb-true n m l, c)
    by_test false l c = let z : ◌≡◌ {A = ℕ} 0 1 = cc in absurd (omega arith)

-- the same of a value
pub held-some : {X : Type 0} (n m : ℕ) (x y : X) → Some x ≡ cond (leb n m) (Some y) None → (n ≤ m) × (x ≡ y)
held-some n m x y e = let h = held_there n m x (Some y) e in (h.0, cc h.1)

-- and what is not there because they do not
pub held_none : {X : Type 0} (n m : ℕ) (y : X) → None ≡ cond (leb n m) (Some y) None → m < n
held_none {X} n m y e = by_test (leb n m) refl e
  where
    by_test : (t : Bool) → leb n m ≡ t → None ≡ cond t (Some y) None → m < n
    by_test true l c = let z : ◌≡◌ {A = ℕ} 0 1 = cc in absurd (omega arith)
    by_test false l c = leb-false n m l

-- a record that the bytes hold tells what it says
pub told : {X : Type 0} (size : List ℕ → ℕ → ℕ) (b : List ℕ) (at : ℕ) (x : Option X) → at + size b at ≤ length b → held size b at x ≡ x
told size b at x h = rw (le-leb _ _ h) refl
