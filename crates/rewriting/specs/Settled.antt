-- When a table decides the families of a book, and when it is reduced as well.
use Rattle.std.specs.Prelude.{◌≡◌, ℕ, suc, ◌<◌, true, List, length, ◌≢◌, slice_index_or}
use Rattle.loads.specs.declared.Load.{Load}
use Rattle.loads.specs.Loads.{shared, empty}
use Rattle.loads.specs.Tests.{Contains, Share}
use Rattle.loads.specs.Exchange.{swapped}
use Rattle.orders.specs.Laws.{Relation}
use Rattle.worksheet.specs.declared.equation.Equation.{Equation}
use Rattle.rewriting.specs.Swaps.{In, Joined, Standard, Meet}

-- the rule at a place, counted from 0
abbrev pub place : List Equation → ℕ → Equation
place t i = slice_index_or t i (record { left = empty; right = empty })

-- one half of a critical pair: what the rule p makes of the peak, the smallest load that contains both left loads. It is what the other left load
-- has beyond the shared part, with the right load of p
abbrev pub reduct : Equation → Equation → Load
reduct p q = swapped q.left (shared p.left q.left) p.right

-- every left load is above its right load
abbrev pub Falls : Relation → List Equation → Type 0
Falls above table = (r : Equation) → In r table → above r.left r.right ≡ true

-- the critical pairs of rules whose left loads share an article meet
abbrev pub PairsMeet : List Equation → Type 0
PairsMeet table =
    (i j : ℕ) → i < j → j < length table → Share (place table i).left (place table j).left
    → Meet table (reduct (place table i) (place table j)) (reduct (place table j) (place table i))

-- the four conditions by which a table decides a book's families: it falls, its rules follow from the book, and equations and pairs meet
pub record Complete (above : Relation) (book table : List Equation) : Type 0 where
  pub falls : Falls above table
  pub follows : (r : Equation) → In r table → Joined book r.left r.right
  pub equations : (e : Equation) → In e book → Meet table e.left e.right
  pub pairs : PairsMeet table

-- a complete table that is reduced: no left load contains another, right loads are standard, and left loads rise
pub record Settled (above : Relation) (book table : List Equation) : Type 0 where
  pub complete : Complete above book table
  pub lefts : (i j : ℕ) → i < length table → j < length table → (i ≢ j) → Contains (place table i).left (place table j).left → ⊥
  pub rights : (r : Equation) → In r table → Standard table r.right
  pub rising : (i : ℕ) → suc i < length table → above (place table (suc i)).left (place table i).left ≡ true
