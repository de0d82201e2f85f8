-- Search and reduction, as functions that compute.
use Rattle.std.specs.Prelude.{ℕ, zero, suc, ◌+◌, true, false, List, [], ◌∷◌, length, Some, None, Ok, Err, Option, Result}
use Rattle.loads.specs.declared.Load.{Load}
use Rattle.loads.specs.Answers.{◌>>=◌, check}
use Rattle.loads.specs.Tests.{contains, fits}
use Rattle.loads.specs.Exchange.{swapped}
use Rattle.worksheet.specs.declared.rule.Rule.{Rule}
use Rattle.rewriting.specs.declared.reduce.Reduced.{Reduced}
use Rattle.rewriting.specs.declared.reduce.StepFault.{StepFault}
use Rattle.rewriting.specs.declared.reduce.StepFault.TheVariants.{Spent, Overflow}

-- the first rule that fits a load, if there is one
abbrev pub fitting : List Rule → Load → Option Rule
fitting [] a = None
fitting (r ∷ t) a = elim (contains a r.left) [ true ↦ Some r | false ↦ fitting t a ]

-- its place, where the first of the table has place i
abbrev pub search : ℕ → List Rule → Load → Option ℕ
search i [] a = None
search i (r ∷ t) a = elim (contains a r.left) [ true ↦ Some i | false ↦ search (i + 1) t a ]

-- the load, unless a count of it passes 65,535
abbrev pub sized : Load → Result Load StepFault
sized x = check (fits x) Overflow >>= λ _. Ok x

-- where a reduction ends, and the line numbers of the rules that it used, in order: one for each step
pub record Way : Type 0 where
  pub end : Load
  pub trail : List ℕ

-- no step
abbrev pub ended : Load → Way
ended a = record { end = a; trail = [] }

-- one step more, before the others
abbrev pub onward : ℕ → Way → Way
onward line w = record { end = w.end; trail = line ∷ w.trail }

-- repeat search and step until no rule fits; where one fits, the budget is checked first, then the new counts
abbrev pub reduce : List Rule → (budget : ℕ) → Load → Result Way StepFault
reduce t zero a = elim (fitting t a) [ None ↦ Ok (ended a) | Some r ↦ Err Spent ]
reduce t (suc b) a = elim (fitting t a) [
  | None ↦ Ok (ended a)
  | Some r ↦ sized (swapped a r.left r.right) >>= λ y. reduce t b y >>= λ w. Ok (onward r.line w)
]

-- the end, and how many steps led to it
abbrev pub counted : Way → Reduced
counted w = record { end = w.end; steps = length w.trail }

-- what is told of a reduction: the line numbers are not
abbrev pub told : {E : Type 0} → Result Way E → Result Reduced E
told x = x >>= λ w. Ok (counted w)
