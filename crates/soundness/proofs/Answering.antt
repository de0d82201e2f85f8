-- What an answer says of its parts, and what parts make an answer.
use Rattle.std.proofs.Common.{◌≡◌, ℕ, Bool, true, false, Some, None, Ok, Err, Option, Result, refl, ap, arith}
use Rattle.loads.specs.Answers.{◌>>=◌, check, marked, wanted}

-- a refusal is no answer
pub err_not_ok : {X E : Type 0} {r : E} {x : X} → ◌≡◌ {A = Result X E} (Err r) (Ok x) → ⊥
err_not_ok {X} {E} {r} {x} e = let z : ◌≡◌ {A = ℕ} 0 1 = cc in omega arith

-- equal answers answer the same
pub ok_same : {X E : Type 0} {x y : X} → ◌≡◌ {A = Result X E} (Ok x) (Ok y) → x ≡ y
ok_same {X} {E} {x} {y} e = cc

pub some_same : {X : Type 0} {x y : X} → ◌≡◌ {A = Option X} (Some x) (Some y) → x ≡ y
some_same {X} {x} {y} e = cc

pub none_not_some : {X : Type 0} {x : X} → ◌≡◌ {A = Option X} None (Some x) → ⊥
none_not_some {X} {x} e = let z : ◌≡◌ {A = ℕ} 0 1 = cc in omega arith

-- what was answered on the way
pub record Went {X Y E : Type 0} (x : Result X E) (f : X → Result Y E) (y : Y) : Type 0 where
  pub got : X
  pub first : x ≡ Ok got
  pub then : f got ≡ Ok y

pub went : {X Y E : Type 0} (x : Result X E) (f : X → Result Y E) (y : Y) → (x >>= f) ≡ Ok y → Went x f y
went (Ok v) f y e = record { got = v; first = refl; then = e }
went (Err r) f y e = absurd (err_not_ok e)

-- an answered part, and what comes after it
pub goes : {X Y E : Type 0} {x : Result X E} {v : X} (f : X → Result Y E) {z : Result Y E} → x ≡ Ok v → f v ≡ z → (x >>= f) ≡ z
goes {x = x} {v} f e h = rw e h

-- a check that was passed
pub checked : {E : Type 0} (b : Bool) (r : E) (u : Unit {0}) → check b r ≡ Ok u → b ≡ true
checked true r u e = refl
checked false r u e = absurd (err_not_ok e)

pub passes : {E : Type 0} {b : Bool} (r : E) → b ≡ true → check b r ≡ Ok tt
passes r e = rw e

-- an answer whose refusals are told in another way
pub unmarked : {X E F : Type 0} (f : E → F) (x : Result X E) (y : X) → marked f x ≡ Ok y → x ≡ Ok y
unmarked f (Ok x) y e = ap Ok (ok_same e)
unmarked f (Err r) y e = absurd (err_not_ok e)

pub marks : {X E F : Type 0} (f : E → F) {x : Result X E} {y : X} → x ≡ Ok y → marked f x ≡ Ok y
marks f e = rw e

-- what was wanted and there
pub had : {X E : Type 0} (o : Option X) (r : E) (x : X) → wanted o r ≡ Ok x → o ≡ Some x
had None r x e = absurd (err_not_ok e)
had (Some y) r x e = ap Some (ok_same e)

pub has : {X E : Type 0} {o : Option X} (r : E) {x : X} → o ≡ Some x → wanted o r ≡ Ok x
has r e = rw e
