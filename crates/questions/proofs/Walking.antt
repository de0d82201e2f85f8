-- A reduction that is answered makes the steps of its trail.
use Rattle.std.proofs.Common.{◌≡◌, ℕ, suc, List, ◌∷◌, length, IfOk, Ok, Err, Result, refl, ap, ◌∙◌}
use Rattle.loads.specs.declared.Load.{Load}
use Rattle.loads.specs.Answers.{◌>>=◌}
use Rattle.worksheet.specs.declared.rule.Rule.{Rule}
use Rattle.rewriting.specs.declared.reduce.StepFault.{StepFault}
use Rattle.rewriting.specs.Reducing.{Way, onward, reduce}
use Rattle.rewriting.proofs.Reducing.{Run, rests, spends, passes, moves, runs}
use Rattle.tables.specs.Trails.{trail}
use Rattle.tables.proofs.Strides.{stride-sized, trail-some}
use Rattle.questions.specs.declared.placed.Place.{Place}
use Rattle.questions.specs.Asking.{reduce_at}
use Rattle.questions.specs.Placed.{placed}
use Rattle.questions.proofs.Answering.{made_at, marked_ok}

-- the way from a load has the line numbers of its steps
abbrev pub Walked : List Rule → Load → Way → Type 0
Walked t a w = trail t (length w.trail) a ≡ w.trail

-- one step before
walked_onward : (t : List Rule) (a y : Load) (r : Rule) → ((n : ℕ) → trail t (suc n) a ≡ r.line ∷ trail t n y)
    → (x : Result Way StepFault) → IfOk x (Walked t y) → IfOk (x >>= λ w. Ok (onward r.line w)) (Walked t a)
walked_onward t a y r step (Ok w) h = step (length w.trail) ∙ ap (λ l. r.line ∷ l) h
walked_onward t a y r step (Err e) h = tt

walked_run : {t : List Rule} {b : ℕ} {a : Load} {x : Result Way StepFault} → Run t b a x → IfOk x (Walked t a)
walked_run (rests e) = refl
walked_run (spends e) = tt
walked_run (passes e f) = tt
walked_run {t} {a = a} (moves {y = y} {r = r} {x = x} e f h) =
    walked_onward t a y r (λ n. trail-some t a (suc n) n (record { line = r.line; load = y }) refl (stride-sized t a r e y f)) x (walked_run h)

pub reduce_walked : (place : Place) (t : List Rule) (b : ℕ) (a : Load) (w : Way) → reduce_at place t b a ≡ Ok w → Walked t a w
reduce_walked place t b a w e = made_at (Walked t a) (reduce t b a) w (marked_ok (placed place) (reduce t b a) w e) (walked_run (runs t b a))
