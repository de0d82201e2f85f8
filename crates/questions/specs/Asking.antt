-- What comes of asking questions in order.
use Rattle.std.specs.Prelude.{ℕ, ◌-◌, true, false, List, [], ◌∷◌, length, Ok, Err, Result}
use Rattle.loads.specs.declared.Load.{Load}
use Rattle.loads.specs.Answers.{◌>>=◌, marked}
use Rattle.loads.specs.Tests.{alike}
use Rattle.worksheet.specs.declared.rule.Rule.{Rule}
use Rattle.rewriting.specs.declared.reduce.Reduced.{Reduced}
use Rattle.rewriting.specs.declared.reduce.StepFault.{StepFault}
use Rattle.rewriting.specs.Reducing.{Way, reduce, counted}
use Rattle.tables.specs.Trails.{trail}
use Rattle.questions.specs.declared.placed.Place.{Place}
use Rattle.questions.specs.declared.placed.Placed.{Placed}
use Rattle.questions.specs.declared.question.Question.{Question}
use Rattle.questions.specs.declared.question.Fork.{Fork}
use Rattle.questions.specs.declared.question.Stop.{Stop}
use Rattle.questions.specs.declared.question.Stop.TheVariants.{Forked, Step}
use Rattle.questions.specs.Placed.{placed}
use Rattle.questions.specs.Topics.{Topic}
use Rattle.questions.specs.Questions.{form, turned_question}

-- a question whose loads end apart, with the way from each, and what is left of the budget
pub record Parting : Type 0 where
  pub question : Question
  pub first : Way
  pub second : Way
  pub left : ℕ

-- the same with its loads changed over
abbrev pub turned_parting : Parting → Parting
turned_parting p = record { question = turned_question p.question; first = p.second; second = p.first; left = p.left }

-- all met, and so much of the budget is left; or the first question that did not
pub data Ending : Type 0 where
  met : (left : ℕ) → Ending
  apart : Parting → Ending

-- by the two loads that a question ends in
abbrev pub ending : Parting → Ending
ending p = elim (alike p.first.end p.second.end) [ true ↦ met p.left | false ↦ apart p ]

-- a reduction at a place
abbrev pub reduce_at : (place : Place) → List Rule → (budget : ℕ) → Load → Result Way (Placed StepFault)
reduce_at place t b a = marked (placed place) (reduce t b a)

-- reduce the first load, then the second with what is left of the budget
abbrev pub ask : List Rule → (budget : ℕ) → Question → Result Ending (Placed StepFault)
ask t b q =
    reduce_at q.place t b q.first >>= λ v.
    reduce_at q.place t (b - length v.trail) q.second >>= λ w.
    Ok (ending (record { question = q; first = v; second = w; left = b - length v.trail - length w.trail }))

-- where all met so far, go on with what is left
abbrev pub go_on : {E : Type 0} → (ℕ → Result Ending E) → Ending → Result Ending E
go_on f (met left) = f left
go_on f (apart p) = Ok (apart p)

-- form and ask each question in order, up to the first that ends in two loads
abbrev pub ask_all : List Rule → (budget : ℕ) → List Topic → Result Ending (Placed StepFault)
ask_all t b [] = Ok (met b)
ask_all t b (k ∷ ks) = form k >>= λ q. ask t b q >>= go_on (λ left. ask_all t left ks)

-- the parting with its steps counted: the line numbers are not told
abbrev pub fork_of : Parting → Fork
fork_of p = record { question = p.question; first = counted p.first; second = counted p.second; left = p.left }

-- the way of so many steps in a table, from a load to an end
abbrev pub way_of : List Rule → Load → Reduced → Way
way_of t a x = record { end = x.end; trail = trail t x.steps a }

-- the parting of a fork in a table
abbrev pub parting_of : List Rule → Fork → Parting
parting_of t f = record { question = f.question; first = way_of t f.question.first f.first; second = way_of t f.question.second f.second; left = f.left }

-- a fork with its loads changed over
abbrev pub turned_fork : Fork → Fork
turned_fork f = record { question = turned_question f.question; first = f.second; second = f.first; left = f.left }

-- what is told of an ending: what is left of the budget, or the question that ended in two loads
abbrev pub outcome_of : Ending → Result ℕ Stop
outcome_of (met left) = Ok left
outcome_of (apart p) = Err (Forked (fork_of p))

-- what is told of an answer
abbrev pub outcome : Result Ending (Placed StepFault) → Result ℕ Stop
outcome x = marked Step x >>= outcome_of
