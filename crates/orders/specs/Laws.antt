-- What binds an order of loads.
use Rattle.std.specs.Prelude.{◌≡◌, ℕ, suc, Bool, true, ◌≢◌}
use mathlib.Core.WellFounded.{Acc}
use Rattle.loads.specs.declared.Load.{Load}
use Rattle.loads.specs.Loads.{empty, plus}

-- a relation between loads of any size; `above x y ≡ true` reads: x is above y
abbrev pub Relation : Type 0
Relation = Load → Load → Bool

-- exactly one of three
pub data ExactlyOne (A B C : Type 0) : Type 0 where
  is_first : A → ¬ B → ¬ C → ExactlyOne A B C
  is_second : ¬ A → B → ¬ C → ExactlyOne A B C
  is_third : ¬ A → ¬ B → C → ExactlyOne A B C

-- The five laws. Of two loads exactly one holds: the first is above, the second is above, or they are the same load; what is above a load is above
-- everything below that load; adding one load to both keeps which is above; every load but the empty one is above the empty one; and below every
-- load all rows come to an end, which is said by accessibility (a load is accessible if every load below it is), so that a proof can follow a row.
pub record Admissible (above : Relation) : Type 0 where
  pub one : (x y : Load) → ExactlyOne (above x y ≡ true) (above y x ≡ true) (x ≡ y)
  pub trans : (x y z : Load) → above x y ≡ true → above y z ≡ true → above x z ≡ true
  pub adds : (x y w : Load) → above x y ≡ true → above (plus x w) (plus y w) ≡ true
  pub least : (x : Load) → x ≢ empty → above x empty ≡ true
  pub ends : (x : Load) → Acc (λ y z. above z y ≡ true) x

-- the fifth law as it is read: there is no endless row of loads, each below the one before
abbrev pub NoEndlessRow : Relation → Type 0
NoEndlessRow above = (row : ℕ → Load) → ¬ ((n : ℕ) → above (row n) (row (suc n)) ≡ true)
