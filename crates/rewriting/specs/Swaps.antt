-- Swaps by the equations of a book, and steps by the rules of a table. A rule is an equation taken one way, so both are over rows of equations.
use Rattle.std.specs.Prelude.{◌≡◌, ◌⊎◌, List, [], ◌∷◌, map}
use Rattle.loads.specs.declared.Load.{Load}
use Rattle.loads.specs.Tests.{Contains}
use Rattle.loads.specs.Exchange.{swapped}
use Rattle.worksheet.specs.declared.equation.Equation.{Equation}
use Rattle.worksheet.specs.declared.rule.Rule.{Rule}
use Rattle.worksheet.specs.Claims.{turned}

-- a rule without the line that claims it
abbrev pub equation_of : Rule → Equation
equation_of r = record { left = r.left; right = r.right }

-- the rules of a table as equations
abbrev pub equations : List Rule → List Equation
equations t = map equation_of t

-- the equation stands in the row
abbrev pub In : Equation → List Equation → Type 0
In e [] = ⊥
In e (f ∷ fs) = (e ≡ f) ⊎ In e fs

-- the equation applies to a, left to right, and makes b of it: the left load is taken out and the right one put in
pub record Applies (e : Equation) (a b : Load) : Type 0 where
  pub fits : Contains a e.left
  pub gives : b ≡ swapped a e.left e.right

-- a swap by some equation of the book, either way
pub record Swap (book : List Equation) (a b : Load) : Type 0 where
  pub equation : Equation
  pub held : In equation book
  pub applies : Applies equation a b ⊎ Applies (turned equation) a b

-- a step by some rule of the table
pub record Step (table : List Equation) (a b : Load) : Type 0 where
  pub rule : Equation
  pub held : In rule table
  pub applies : Applies rule a b

-- links one after another, perhaps none
pub data Chain (R : Load → Load → Type 0) : Load → Load → Type 0 where
  none : {a : Load} → Chain R a a
  link : {a b c : Load} → R a b → Chain R b c → Chain R a c

-- the loads are of one family: a chain of swaps joins them
abbrev pub Joined : List Equation → Load → Load → Type 0
Joined book = Chain (Swap book)

-- steps lead from the one load to the other
abbrev pub Reduces : List Equation → Load → Load → Type 0
Reduces table = Chain (Step table)

-- a normal form: no rule fits
abbrev pub Standard : List Equation → Load → Type 0
Standard table a = (r : Equation) → In r table → Contains a r.left → ⊥

-- two loads are joinable: they reduce to one
pub record Meet (table : List Equation) (a b : Load) : Type 0 where
  pub end : Load
  pub first : Reduces table a end
  pub second : Reduces table b end
