-- The conditions on a file's table.
use Rattle.std.specs.Prelude.{ℕ, zero, suc, ◌+◌, Bool, true, false, not, ◌&&◌, List, [], ◌∷◌, take, drop, pos, is_some, Some, None, Ok, Err, Option, Result}
use Rattle.std.specs.Option.{option_map}
use Rattle.loads.specs.declared.Load.{Load}
use Rattle.loads.specs.Answers.{◌>>=◌, check, marked}
use Rattle.orders.specs.Laws.{Relation}
use Rattle.worksheet.specs.declared.equation.Equation.{Equation}
use Rattle.worksheet.specs.declared.line.Line.{Line}
use Rattle.worksheet.specs.declared.rule.Rule.{Rule}
use Rattle.worksheet.specs.Claims.{nth, claims, named}
use Rattle.rewriting.specs.Reducing.{fitting}
use Rattle.rewriting.specs.Swaps.{equation_of}
use Rattle.questions.specs.Topics.{topics}
use Rattle.questions.specs.Asking.{Ending, met, apart, ask_all}
use Rattle.questions.specs.declared.question.Stop.{Stop}
use Rattle.questions.specs.declared.question.Stop.TheVariants.{Forked}
use Rattle.questions.specs.declared.question.Stop.TheVariants as stop
use Rattle.adoption.specs.declared.fault.TableFault.{TableFault}
use Rattle.adoption.specs.declared.fault.TableFault.TheVariants.{NotClaimed, NotFalling, NotReduced, Apart, Step}
use Rattle.adoption.specs.Worksheets.{same_sides}

-- every rule passes a test, which is told its place counted from 0, the first i; the first that fails is named by its place counted from 1
abbrev pub each : (ℕ → Rule → Bool) → (ℕ → TableFault) → (i : ℕ) → List Rule → Result (Unit {0}) TableFault
each test fault i [] = Ok tt
each test fault i (r ∷ t) = check (test i r) (fault (i + 1)) >>= λ _. each test fault (i + 1) t

-- there is such an equation, and the rule has its sides
abbrev pub stated : Rule → Option Equation → Bool
stated r None = false
stated r (Some e) = same_sides (equation_of r) e

-- the rules are what their lines claim
abbrev pub rules_claimed : (lines : List Equation) → List Rule → Result (Unit {0}) TableFault
rules_claimed lines t = each (λ _ r. stated r (named lines (pos r.line))) NotClaimed 0 t

-- left loads are above right loads
abbrev pub rules_fall : Relation → List Rule → Result (Unit {0}) TableFault
rules_fall above t = each (λ _ r. above r.left r.right) NotFalling 0 t

-- no rule fits the load
abbrev pub unfit : List Rule → Load → Bool
unfit t a = not (is_some (fitting t a))

-- the left load before the place i, counted from 0
abbrev pub left_before : List Rule → ℕ → Option Load
left_before t zero = None
left_before t (suc i) = option_map (λ r. r.left) (nth t i)

-- the load is above the one before it, if there is one
abbrev pub rises : Relation → Option Load → Load → Bool
rises above None a = true
rises above (Some b) a = above a b

-- the rule r at the place i, counted from 0: its left load is above the one before it and contains no other, and no rule fits its right load
abbrev pub reduced_at : Relation → List Rule → ℕ → Rule → Bool
reduced_at above t i r = rises above (left_before t i) r.left && (unfit (take i t) r.left && (unfit (drop (i + 1) t) r.left && unfit t r.right))

-- the table is reduced
abbrev pub table_reduced : Relation → List Rule → Result (Unit {0}) TableFault
table_reduced above t = each (reduced_at above t) NotReduced 0 t

-- the conditions on single rules, in order
abbrev pub rules_hold : Relation → (lines : List Equation) → List Rule → Result (Unit {0}) TableFault
rules_hold above lines t = rules_claimed lines t >>= λ _. rules_fall above t >>= λ _. table_reduced above t

-- why asking stopped, as a fault of the table
abbrev pub as_table_fault : Stop → TableFault
as_table_fault (Forked f) = Apart f.question.place
as_table_fault (stop.Step e) = Step e

-- what is left of the budget, unless a question ends in two loads
abbrev pub one_load : Ending → Result ℕ TableFault
one_load (met left) = Ok left
one_load (apart p) = Err (Apart p.question.place)

-- every equation and every pair ends in one load
abbrev pub all_meet : List Rule → (budget : ℕ) → List Equation → Result ℕ TableFault
all_meet t b book = marked Step (ask_all t b (topics book t)) >>= one_load

-- the conditions on the table, in order, with what is left of the budget
abbrev pub table_holds : Relation → List Equation → List Line → (budget : ℕ) → List Rule → Result ℕ TableFault
table_holds above book ls b t = rules_hold above (claims book ls) t >>= λ _. all_meet t b book
