-- What holds of an answer, one step after another.
use Rattle.std.proofs.Common.{◌≡◌, ℕ, MatchResult, IfOk, Ok, Err, Result, refl, ap, ◌∙◌, subst, arith}
use Rattle.std.specs.Result.{IsErrAnd}
use Rattle.std.proofs.lemmas.Result.{err_from_is_err_and}
use Rattle.loads.specs.Answers.{◌>>=◌, marked}

-- where what follows an answer has it, the whole has it
pub made_bind : {X Y E : Type 0} (P : Y → Type 0) (x : Result X E) (f : X → Result Y E) → ((v : X) → x ≡ Ok v → IfOk (f v) P) → IfOk (x >>= f) P
made_bind P (Ok v) f h = h v refl
made_bind P (Err e) f h = tt

-- an answer that is there has it
pub made_at : {X E : Type 0} (P : X → Type 0) (x : Result X E) (v : X) → x ≡ Ok v → IfOk x P → P v
made_at {X} {E} P x v e h = subst (λ (y : Result X E). IfOk y P) e h

-- an answer whose refusals are told another way is the same answer
pub marked_ok : {X E F : Type 0} (f : E → F) (x : Result X E) (v : X) → marked f x ≡ Ok v → x ≡ Ok v
marked_ok f (Ok w) v e = let s : w ≡ v = cc in rw s refl
marked_ok f (Err d) v e = let z : ◌≡◌ {A = ℕ} 0 1 = cc in absurd (omega arith)

-- an answer whose refusals are all told as d
pub told_as : {X E D : Type 0} (P : E → D → Type 0) (d : D) (x : Result X E) (r : Result X D) → ((e : E) (z : D) → P e z → z ≡ d) → MatchResult x (λ y. r ≡ Ok y) (λ e. IsErrAnd r (P e)) → r ≡ marked (λ _. d) x
told_as P d (Ok y) r h c = c
told_as P d (Err e) r h c = let p = err_from_is_err_and r c in p.1 ∙ ap Err (h e p.0 p.2)
