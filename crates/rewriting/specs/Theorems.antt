-- The theorems on tables and families.
use Rattle.std.specs.Prelude.{◌≡◌, ℕ, ◌↔◌, List, None, Ok}
use Rattle.loads.specs.declared.Load.{Load}
use Rattle.orders.specs.Laws.{Admissible, Relation}
use Rattle.worksheet.specs.declared.equation.Equation.{Equation}
use Rattle.worksheet.specs.declared.rule.Rule.{Rule}
use Rattle.rewriting.specs.Reducing.{search, Way, reduce}
use Rattle.rewriting.specs.Swaps.{equations, Joined, Reduces, Standard, Meet}
use Rattle.rewriting.specs.Settled.{Falls, PairsMeet, Complete, Settled}

-- two reductions of one load meet
abbrev pub ChurchRosser : Type 0
ChurchRosser =
    (above : Relation) → Admissible above → (table : List Equation) → Falls above table → PairsMeet table
    → (a b c : Load) → Reduces table a b → Reduces table a c → Meet table b c

-- there is exactly one
abbrev pub Only : (Load → Type 0) → Type 0
Only P = (s : Load) × P s × ((s' : Load) → P s' → s' ≡ s)

-- every family has exactly one standard load
abbrev pub OneStandard : Type 0
OneStandard =
    (above : Relation) → Admissible above → (book table : List Equation) → Complete above book table
    → (a : Load) → Only (λ s. Joined book a s × Standard table s)

-- two loads are of one family exactly when their standard loads are the same
abbrev pub Families : Type 0
Families =
    (above : Relation) → Admissible above → (book table : List Equation) → Complete above book table
    → (a b s s' : Load) → Joined book a s → Standard table s → Joined book b s' → Standard table s'
    → (Joined book a b ↔ (s ≡ s'))

-- so to reduce both is to decide whether they are of one family
abbrev pub ReducingTells : Type 0
ReducingTells =
    (above : Relation) → Admissible above → (book table : List Equation) → Complete above book table
    → (a b s s' : Load) → Reduces table a s → Standard table s → Reduces table b s' → Standard table s'
    → (Joined book a b ↔ (s ≡ s'))

-- two settled tables under one relation are the same place for place exactly when their books join the same loads
abbrev pub OneTable : Type 0
OneTable =
    (above : Relation) → Admissible above → (book book' table table' : List Equation)
    → Settled above book table → Settled above book' table'
    → ((table ≡ table') ↔ ((a b : Load) → Joined book a b ↔ Joined book' a b))

-- a reduction that is answered is a chain of steps to a standard load
abbrev pub ReduceEnds : Type 0
ReduceEnds =
    (table : List Rule) (budget : ℕ) (a : Load) (w : Way) → reduce table budget a ≡ Ok w
    → Reduces (equations table) a w.end × Standard (equations table) w.end

-- the search finds no place exactly when the load is standard
abbrev pub SearchNone : Type 0
SearchNone = (table : List Rule) (a : Load) → (search 0 table a ≡ None) ↔ Standard (equations table) a
