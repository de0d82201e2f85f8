-- The question that each topic leads to.
use Rattle.std.specs.Prelude.{◌≤◌, Ok, Result}
use Rattle.loads.specs.Answers.{◌>>=◌, marked}
use Rattle.rewriting.specs.declared.reduce.StepFault.{StepFault}
use Rattle.rewriting.specs.Reducing.{sized}
use Rattle.rewriting.specs.Swaps.{equation_of}
use Rattle.rewriting.specs.Settled.{reduct}
use Rattle.questions.specs.declared.placed.Place.TheVariants.{Entry, Pair}
use Rattle.questions.specs.declared.placed.Placed.{Placed}
use Rattle.questions.specs.declared.question.Bridge.{Bridge}
use Rattle.questions.specs.declared.question.Bridge.TheVariants.{Forward, Backward, Peak}
use Rattle.questions.specs.declared.question.Question.{Question}
use Rattle.questions.specs.Placed.{placed}
use Rattle.questions.specs.Topics.{Topic, entry, peak}

-- the two loads of an equation are its sides; those of a pair are what each rule makes of the peak, and both are formed before either is reduced
abbrev pub form : Topic → Result Question (Placed StepFault)
form (entry k e) = Ok (record { place = Entry k; first = e.left; second = e.right; bridge = Forward k })
form (peak i r j s) =
    marked (placed (Pair i j)) (sized (reduct (equation_of r) (equation_of s))) >>= λ x.
    marked (placed (Pair i j)) (sized (reduct (equation_of s) (equation_of r))) >>= λ y.
    Ok (record { place = Pair i j; first = x; second = y; bridge = Peak r.line s.line })

-- from the second load to the first
abbrev pub turned_bridge : Bridge → Bridge
turned_bridge (Forward k) = Backward k
turned_bridge (Backward k) = Forward k
turned_bridge (Peak i j) = Peak j i

-- the question with its loads changed over
abbrev pub turned_question : Question → Question
turned_question q = record { place = q.place; first = q.second; second = q.first; bridge = turned_bridge q.bridge }

-- a chain can cite the lines of a bridge
abbrev pub Cited : Bridge → Type 0
Cited (Forward k) = k ≤ 544
Cited (Backward k) = k ≤ 544
Cited (Peak i j) = (i ≤ 544) × (j ≤ 544)
