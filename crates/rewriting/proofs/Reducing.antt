-- The reduction, by what the search and the new counts give.
use Rattle.std.proofs.Common.{◌≡◌, ℕ, zero, suc, Bool, true, false, List, Some, None, Ok, Err, Option, Result, refl, ap, ◌∙◌, arith}
use Rattle.loads.specs.declared.Load.{Load}
use Rattle.loads.specs.declared.exchange.ExchangeFault.{ExchangeFault}
use Rattle.loads.specs.Answers.{◌>>=◌}
use Rattle.loads.specs.Tests.{contains, fits}
use Rattle.loads.specs.Exchange.{swapped, exchanged}
use Rattle.loads.proofs.Exchanging.{exchanged-over, exchanged_made}
use Rattle.worksheet.specs.declared.rule.Rule.{Rule}
use Rattle.rewriting.specs.declared.reduce.StepFault.{StepFault}
use Rattle.rewriting.specs.declared.reduce.StepFault.TheVariants.{Spent, Overflow}
use Rattle.rewriting.specs.Reducing.{fitting, sized, ended, Way, onward, reduce}

-- what the exchange of a part that the load has tells of the new load
module _ (x out into : Load) (has : contains x out ≡ true) where
  pub exchange_made : (y : Load) → exchanged x out into ≡ Ok y → sized (swapped x out into) ≡ Ok y
  exchange_made y e = go (fits (swapped x out into)) refl
    where
      go : (f : Bool) → fits (swapped x out into) ≡ f → sized (swapped x out into) ≡ Ok y
      go true q = let r = exchanged_made x out into has q in let s : swapped x out into ≡ y = cc in rw q (ap Ok s)
      go false q = let r = exchanged-over x out into has q in let z : ◌≡◌ {A = ℕ} 0 1 = cc in absurd (omega arith)

  pub exchange_refused : (f : ExchangeFault) → exchanged x out into ≡ Err f → sized (swapped x out into) ≡ Err Overflow
  exchange_refused f e = go (fits (swapped x out into)) refl
    where
      go : (b : Bool) → fits (swapped x out into) ≡ b → sized (swapped x out into) ≡ Err Overflow
      go true q = let r = exchanged_made x out into has q in let z : ◌≡◌ {A = ℕ} 0 1 = cc in absurd (omega arith)
      go false q = rw q

-- the load that is sized is the load
pub sized_is : (x y : Load) → sized x ≡ Ok y → y ≡ x
sized_is x y e = go (fits x) refl
  where
    go : (f : Bool) → fits x ≡ f → y ≡ x
    go true q = let r : ◌≡◌ {A = Result Load StepFault} (Ok x) (Ok y) = rw q at e in cc
    go false q = let r : ◌≡◌ {A = Result Load StepFault} (Err Overflow) (Ok y) = rw q at e in let z : ◌≡◌ {A = ℕ} 0 1 = cc in absurd (omega arith)

-- a reduction by what the search and the new counts give
module _ (t : List Rule) (a : Load) where
  pub reduce-none : (b : ℕ) → fitting t a ≡ None → reduce t b a ≡ Ok (ended a)
  reduce-none zero e = rw (e, reduce)
  reduce-none (suc b) e = rw (e, reduce)

  pub reduce_spent : (r : Rule) → fitting t a ≡ Some r → reduce t 0 a ≡ Err Spent
  reduce_spent r e = rw (e, reduce)

  reduce-some : (b : ℕ) (r : Rule) → fitting t a ≡ Some r → reduce t (suc b) a ≡ (sized (swapped a r.left r.right) >>= λ y. reduce t b y >>= λ w. Ok (onward r.line w))
  reduce-some b r e = rw (e, reduce)

  pub reduce-over : (b : ℕ) (r : Rule) (f : StepFault) → fitting t a ≡ Some r → sized (swapped a r.left r.right) ≡ Err f → reduce t (suc b) a ≡ Err f
  reduce-over b r f e g = reduce-some b r e ∙ ap (λ x. x >>= λ y. reduce t b y >>= λ w. Ok (onward r.line w)) g

  pub reduce_step : (b : ℕ) (r : Rule) (y : Load) → fitting t a ≡ Some r → sized (swapped a r.left r.right) ≡ Ok y
      → reduce t (suc b) a ≡ (reduce t b y >>= λ w. Ok (onward r.line w))
  reduce_step b r y e f = reduce-some b r e ∙ ap (λ x. x >>= λ y. reduce t b y >>= λ w. Ok (onward r.line w)) f

-- how a reduction runs: the graph of `reduce`, over which its laws are proved
pub data Run (t : List Rule) : ℕ → Load → Result Way StepFault → Type 0 where
  rests : {b : ℕ} {a : Load} → fitting t a ≡ None → Run t b a (Ok (ended a))
  spends : {a : Load} {r : Rule} → fitting t a ≡ Some r → Run t 0 a (Err Spent)
  passes : {b : ℕ} {a : Load} {r : Rule} {f : StepFault} → fitting t a ≡ Some r → sized (swapped a r.left r.right) ≡ Err f → Run t (suc b) a (Err f)
  moves : {b : ℕ} {a y : Load} {r : Rule} {x : Result Way StepFault} → fitting t a ≡ Some r → sized (swapped a r.left r.right) ≡ Ok y
      → Run t b y x → Run t (suc b) a (x >>= λ w. Ok (onward r.line w))

pub runs : (t : List Rule) (b : ℕ) (a : Load) → Run t b a (reduce t b a)
runs t zero a = go (fitting t a) refl
  where
    go : (o : Option Rule) → fitting t a ≡ o → Run t 0 a (reduce t 0 a)
    go None e = rw (reduce-none t a 0 e) (rests e)
    go (Some r) e = rw (reduce_spent t a r e) (spends e)
runs t (suc b) a = go (fitting t a) refl (runs t b)
  where
    step : (r : Rule) → fitting t a ≡ Some r → (o : Result Load StepFault) → sized (swapped a r.left r.right) ≡ o → ((y : Load) → Run t b y (reduce t b y)) → Run t (suc b) a (reduce t (suc b) a)
    step r e (Err g) f ih = rw (reduce-over t a b r g e f) (passes e f)
    step r e (Ok y) f ih = rw (reduce_step t a b r y e f) (moves e f (ih y))

    go : (o : Option Rule) → fitting t a ≡ o → ((y : Load) → Run t b y (reduce t b y)) → Run t (suc b) a (reduce t (suc b) a)
    go None e ih = rw (reduce-none t a (suc b) e) (rests e)
    go (Some r) e ih = step r e (sized (swapped a r.left r.right)) refl ih
