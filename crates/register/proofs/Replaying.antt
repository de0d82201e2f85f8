-- What following a chain on a register comes to.
use Rattle.std.proofs.Common.{◌≡◌, List, ℤ, Some, None, Ok, Err, refl}
use Rattle.std.specs.Result.{result_err}
use Rattle.loads.specs.declared.Load.{Load}
use Rattle.worksheet.specs.declared.equation.Equation.{Equation}
use Rattle.worksheet.specs.declared.fault.ReplayFault.{ReplayFault}
use Rattle.worksheet.specs.Replay.{replay, net}
use Rattle.refusals.specs.declared.Refusal.TheVariants as refusal
use Rattle.refusals.specs.Refusals.{told}
use Rattle.register.specs.Contents.{Contents, lines_of}
use Rattle.register.specs.Calls.{Replay, Replayed, Refused, Did, replaying}

module _ (c : Contents) (a : Load) (chain : List ℤ) (ls : List Equation) (cites : lines_of c ≡ ls) where
  -- the chain is followed to its end
  pub follows : (b : Load) (n : List ℤ) → Ok b ≡ replay ls 1 chain a → n ≡ net a b → Did c (Replay a chain) (Replayed b n) c
  follows b n e is = record { said = rw (cites, ← e, is); left = rw (cites, ← e) }

  -- and nothing is refused
  pub passes : (b : Load) → Ok b ≡ replay ls 1 chain a → None ≡ result_err (replaying c a chain)
  passes b e = rw (cites, ← e) refl

  -- or a step is refused
  pub falters : (f : ReplayFault) → Err f ≡ replay ls 1 chain a → Did c (Replay a chain) (Refused (told (refusal.Replay f))) c
  falters f e = record { said = rw (cites, ← e); left = rw (cites, ← e) }

  -- and so the call
  pub stops : (f : ReplayFault) → Err f ≡ replay ls 1 chain a → Some (refusal.Replay f) ≡ result_err (replaying c a chain)
  stops f e = rw (cites, ← e) refl
