-- A chain followed one step at a time.
use Rattle.std.proofs.Common.{◌≡◌, ℕ, ◌+◌, ◌<◌, ◌≤◌, List, length, get_or, drop, ℤ, pos, Ok, Err, refl, ◌∙◌, add-one, drop_of_length-le, drop-cons}
use Rattle.loads.specs.Answers.{◌>>=◌, marked}
use Rattle.loads.specs.declared.Load.{Load}
use Rattle.worksheet.specs.declared.equation.Equation.{Equation}
use Rattle.worksheet.specs.declared.fault.ReplayFault.{ReplayFault}
use Rattle.worksheet.specs.Replay.{swap, at_step, replay}

module _ (ls : List Equation) (zs : List ℤ) (i : ℕ) (a : Load) where
  -- the step at a place, and those after it
  goes : i < length zs → replay ls (i + 1) (drop i zs) a ≡ (marked (at_step (i + 1)) (swap ls (get_or zs i (pos 0)) a) >>= λ b. replay ls (i + 1 + 1) (drop (i + 1) zs) b)
  goes h = rw (add-one, drop-cons zs i (pos 0)) refl

  -- the step is refused
  pub stops : (f : ReplayFault) → i < length zs → marked (at_step (i + 1)) (swap ls (get_or zs i (pos 0)) a) ≡ Err f → replay ls (i + 1) (drop i zs) a ≡ Err f
  stops f h e = goes h ∙ rw e

  -- the step is made
  pub goes_on : (b : Load) → i < length zs → marked (at_step (i + 1)) (swap ls (get_or zs i (pos 0)) a) ≡ Ok b → replay ls (i + 1) (drop i zs) a ≡ replay ls (i + 1 + 1) (drop (i + 1) zs) b
  goes_on b h e = goes h ∙ rw e

  -- no step is left
  pub ends : length zs ≤ i → replay ls (i + 1) (drop i zs) a ≡ Ok a
  ends h = rw (drop_of_length-le zs h)
