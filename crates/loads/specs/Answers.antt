-- Answers and refusals, one after the other.
use Rattle.std.specs.Prelude.{Bool, true, false, Some, None, Ok, Err, Option, Result}

infixl 10 ◌>>=◌
-- go on with what was answered; a refusal stays
abbrev pub ◌>>=◌ : {X Y E : Type 0} → Result X E → (X → Result Y E) → Result Y E
◌>>=◌ (Ok x) f = f x
◌>>=◌ (Err e) f = Err e

-- go on if the test holds
abbrev pub check : {E : Type 0} → Bool → E → Result (Unit {0}) E
check true e = Ok tt
check false e = Err e

-- a refusal is told in another way, or gains a place
abbrev pub marked : {X E F : Type 0} → (E → F) → Result X E → Result X F
marked f (Ok x) = Ok x
marked f (Err e) = Err (f e)

-- go on with what is there
abbrev pub wanted : {X E : Type 0} → Option X → E → Result X E
wanted None e = Err e
wanted (Some x) e = Ok x
