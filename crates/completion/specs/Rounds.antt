-- The rounds of settle.
use Rattle.std.specs.Prelude.{ℕ, zero, suc, ◌+◌, ◌-◌, List, [], ◌∷◌, ◌++◌, length, Some, None, Ok, Err, Result, slice_set}
use Rattle.loads.specs.Answers.{◌>>=◌, check, marked}
use Rattle.orders.specs.Laws.{Relation}
use Rattle.worksheet.specs.declared.equation.Equation.{Equation}
use Rattle.worksheet.specs.declared.rule.Rule.{Rule}
use Rattle.questions.specs.Topics.{topics}
use Rattle.questions.specs.declared.placed.Place.{Place}
use Rattle.questions.specs.declared.question.Fork.{Fork}
use Rattle.questions.specs.Asking.{Parting, Ending, met, apart, reduce_at, ask_all, parting_of}
use Rattle.completion.specs.declared.fault.RoundFault.{RoundFault}
use Rattle.completion.specs.declared.fault.RoundFault.TheVariants.{Step, NoRoom}
use Rattle.completion.specs.declared.found.Found.{Found}
use Rattle.std.specs.declared.ops.ControlFlow.{ControlFlow}
use Rattle.std.specs.declared.ops.ControlFlow.TheVariants.{Break, Continue}
use Rattle.worksheet.specs.Derivations.{Derivation}
use Rattle.completion.specs.Room.{roomy}
use Rattle.completion.specs.States.{State, blank}
use Rattle.completion.specs.Adding.{derived, oriented, rule_of, admit}
use Rattle.completion.specs.Changing.{unfinished, right_place, rederived}

-- what a round asks for, with what is left of the budget: nothing, or a line, and the table that it leads to
pub data Wish : Type 0 where
  nothing : (left : ℕ) → Wish
  a_line : (place : Place) (new : Derivation) (table : List Rule) (left : ℕ) → Wish

-- add the rule of a parting, the higher end to the other; its line has this number
abbrev pub add : Relation → (capacity number : ℕ) → Parting → List Rule → Result Wish RoundFault
add above capacity number p t =
    let new = derived (oriented above p) in
    admit above capacity p.question.place (rule_of new.claim number) t >>= λ t'.
    Ok (a_line p.question.place new t' p.left)

-- put the standard load of a rule's right load in its place
abbrev pub change : (number budget : ℕ) → Found → List Rule → Result Wish RoundFault
change number b f t =
    marked Step (reduce_at (right_place f.place) t b f.rule.right) >>= λ w.
    let new = rederived f.rule w in
    Ok (a_line (right_place f.place) new (slice_set t f.place (rule_of new.claim number)) (b - length w.trail))

-- after the questions: at the first that ends in two loads, add a rule; otherwise change the first right load that some rule fits; otherwise nothing
abbrev pub proceed : Relation → (capacity number : ℕ) → List Rule → Ending → Result Wish RoundFault
proceed above capacity number t (apart p) = add above capacity number p t
proceed above capacity number t (met left) = elim (unfinished t 0 t) [ Some f ↦ change number left f t | None ↦ Ok (nothing left) ]

-- the number of the next line, where the book has n equations: all lines, and itself
abbrev pub next_line : (n : ℕ) → State → ℕ
next_line n s = n + length s.added + 1

-- ask about every equation, then every pair, and proceed
abbrev pub wish : Relation → (capacity : ℕ) → List Equation → (budget : ℕ) → State → Result Wish RoundFault
wish above capacity book b s = marked Step (ask_all s.table b (topics book s.table)) >>= proceed above capacity (next_line (length book) s) s.table

-- what a round comes to, with what is left of the budget: a break where the book is settled; or a line was added, and another round follows
abbrev pub Turn : Type 0
Turn = ControlFlow ℕ ℕ

-- note the line, if there is room for it
abbrev pub note : State → Wish → Result (Turn × State) RoundFault
note s (nothing left) = Ok (Break left, s)
note s (a_line place new t left) =
    check (roomy s.added (length new.chain)) (NoRoom place) >>= λ _.
    Ok (Continue left, record { table = t; added = s.added ++ (new ∷ []) })

-- what comes of a wish
abbrev pub granted : State → Result Wish RoundFault → Result (Turn × State) RoundFault
granted s w = w >>= note s

-- one round
abbrev pub round : Relation → (capacity : ℕ) → List Equation → (budget : ℕ) → State → Result (Turn × State) RoundFault
round above capacity book b s = granted s (wish above capacity book b s)

-- what comes of a fork, and of a right load that some rule fits, where the book has n equations
abbrev pub forked : Relation → (capacity n : ℕ) → Fork → State → Result (Turn × State) RoundFault
forked above capacity n f s = granted s (add above capacity (next_line n s) (parting_of s.table f) s.table)

abbrev pub finished : (n budget : ℕ) → Found → State → Result (Turn × State) RoundFault
finished n b f s = granted s (change (next_line n s) b f s.table)

-- where no line may be added any more
abbrev pub no_more : State → Wish → Result (ℕ × State) RoundFault
no_more s (nothing left) = Ok (left, s)
no_more s (a_line place new t left) = Err (NoRoom place)

-- rounds until one is settled, with what is left of the budget; so many lines may still be added
abbrev pub rounds : Relation → (capacity : ℕ) → List Equation → (lines budget : ℕ) → State → Result (ℕ × State) RoundFault
rounds above capacity book zero b s = wish above capacity book b s >>= no_more s
rounds above capacity book (suc n) b s =
    round above capacity book b s >>= λ x.
    elim x.0 [ Break left ↦ Ok (left, x.1) | Continue left ↦ rounds above capacity book n left x.1 ]

-- from an empty table; the steps made
abbrev pub settle : Relation → (capacity : ℕ) → List Equation → (budget : ℕ) → Result (ℕ × State) RoundFault
settle above capacity book b = rounds above capacity book 512 b blank >>= λ x. Ok (b - x.0, x.1)
