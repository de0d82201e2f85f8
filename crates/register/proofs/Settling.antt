-- What an answered or refused settle comes to.
use Rattle.std.proofs.Common.{◌≡◌, ℕ, ◌+◌, Bool, true, false, List, length, Some, None, Ok, Err, Result, sym, refl, ap, ◌∙◌, ap₂}
use mathlib.Core.Logic.{∥∥₁_map}
use Rattle.std.specs.List.{AllByRecursion as All}
use Rattle.std.specs.Result.{result_err}
use Rattle.orders.specs.Laws.{Relation, Admissible}
use Rattle.worksheet.specs.declared.equation.Equation.{Equation}
use Rattle.completion.specs.declared.fault.RoundFault.{RoundFault}
use Rattle.completion.specs.Capacities.{in_limits}
use Rattle.completion.specs.States.{State, answered, leaves}
use Rattle.completion.specs.Rounds.{settle}
use Rattle.soundness.specs.Sheets.{Small}
use Rattle.soundness.proofs.Answering.{err_not_ok, ok_same}
use Rattle.soundness.proofs.Meaning.{rounds_are_sound}
use Rattle.refusals.specs.Refusals.{told, as_refusal}
use Rattle.register.specs.Contents.{Contents}
use Rattle.register.specs.Guarantee.{Guaranteed}
use Rattle.register.specs.View.{contents_of}
use Rattle.register.specs.Calls.{Settle, Counted, Refused, Did, settling}

-- what the answer and the state after it say of the definition
module _ {X S E : Type 0} (start : S) (x : Result (X × S) E) (after : S) (is : after ≡ leaves start x) where
  pub answered_so : (v : X) → Ok v ≡ answered x → x ≡ Ok (v, after)
  answered_so v e = go x refl
    where
      go : (y : Result (X × S) E) → x ≡ y → x ≡ Ok (v, after)
      go (Ok p) d =
          let first : v ≡ p.0 = ok_same (e ∙ ap answered d) in
          let second : after ≡ p.1 = is ∙ ap (leaves start) d in
          d ∙ ap₂ (λ (a : X) (b : S). Ok (a, b)) (sym first) (sym second)
      go (Err f) d = absurd (err_not_ok (sym (e ∙ ap answered d)))

  pub refused_so : (f : E) → Err f ≡ answered x → (x ≡ Err f) × (after ≡ start)
  refused_so f e = go x refl
    where
      go : (y : Result (X × S) E) → x ≡ y → (x ≡ Err f) × (after ≡ start)
      go (Ok p) d = absurd (err_not_ok (e ∙ ap answered d))
      go (Err g) d = let h : ◌≡◌ {A = Result X E} (Err f) (Err g) = e ∙ ap answered d in let same : f ≡ g = cc in (d ∙ ap Err (sym same), is ∙ ap (leaves start) d)

module _ (above : Relation) (c : Contents) (none : c.sheet ≡ None) (capacity budget : ℕ) (passes : in_limits capacity ≡ true) where
  -- the book is settled, and nothing is refused
  pub settle_passed : (n : ℕ) (s : State) → settle above capacity c.book budget ≡ Ok (n, s) → None ≡ result_err (settling c above capacity budget)
  settle_passed n s e = rw (none, passes, e) refl

  -- a round is refused, and so the call
  pub settle_stopped : (f : RoundFault) → settle above capacity c.book budget ≡ Err f → Some (as_refusal f) ≡ result_err (settling c above capacity budget)
  settle_stopped f e = rw (none, passes, e) refl

  -- the book is settled
  pub settle_did : (n : ℕ) (s : State) → settle above capacity c.book budget ≡ Ok (n, s)
      → Did c (Settle above capacity budget) (Counted (length s.table) (length c.book + length s.added) n) (record { book = c.book; sheet = Some s })
  settle_did n s e = record { said = rw (none, passes, e); left = rw (none, passes, e) }

  -- a round is refused
  pub settle_refused : (f : RoundFault) → settle above capacity c.book budget ≡ Err f → Did c (Settle above capacity budget) (Refused (told (as_refusal f))) c
  settle_refused f e = record { said = rw (none, passes, e); left = rw (none, passes, e) }

-- an open register shows the same, whatever its workings hold
pub open_same : (book : List Equation) (b : Bool) → b ≡ false → (s s' : State) → contents_of book b s ≡ contents_of book b s'
open_same book b e s s' = rw e refl

-- what a settled register guarantees
pub settle_guarantees : (above : Relation) → Admissible above → (book : List Equation) → ∥ All Small book ∥₁ → (capacity budget n : ℕ) (s : State) → settle above capacity book budget ≡ Ok (n, s)
    → ∥ Guaranteed book s ∥₁
settle_guarantees above laws book small capacity budget n s e = ∥∥₁_map small (λ h. record { above = above; laws = laws; sound = rounds_are_sound above laws book h capacity budget n s e })
