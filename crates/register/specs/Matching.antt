-- Whether one load can be turned into another.
use Rattle.std.specs.Prelude.{ℕ, ◌+◌, ◌-◌, Bool, true, false, cond, List, ◌++◌, length, ℤ, Ok, Result, nat_le}
use Rattle.loads.specs.declared.Load.{Load}
use Rattle.loads.specs.Answers.{◌>>=◌, check, marked}
use Rattle.loads.specs.Tests.{alike}
use Rattle.worksheet.specs.declared.rule.Rule.{Rule}
use Rattle.rewriting.specs.Reducing.{Way}
use Rattle.tables.specs.Trails.{forward, undo}
use Rattle.questions.specs.declared.placed.Place.TheVariants.{Argument}
use Rattle.questions.specs.Asking.{reduce_at}
use Rattle.refusals.specs.declared.Refusal.{Refusal}
use Rattle.refusals.specs.declared.Refusal.TheVariants.{Step, ShortChain}

-- equal, with the chain that leads from the first load to the second, a number for each step of the two reductions; or different, with their steps
pub data Verdict : Type 0 where
  equal : (chain : List ℤ) → Verdict
  different : (steps : ℕ) → Verdict

-- whether a verdict says equal
abbrev pub says_equal : Verdict → Bool
says_equal (equal chain) = true
says_equal (different steps) = false

-- how many steps the two reductions made
abbrev pub steps_of : Way → Way → ℕ
steps_of v w = length v.trail + length w.trail

-- the first reduction forward, then the second backward
abbrev pub chain_between : Way → Way → List ℤ
chain_between v w = forward v.trail ++ undo (forward w.trail)

-- by where the two reductions end; a chain that is wanted has to find room
abbrev pub verdict : (room : ℕ) → Way → Way → Result Verdict Refusal
verdict room v w =
    cond (alike v.end w.end)
    (check (nat_le (steps_of v w) room) ShortChain >>= λ _. Ok (equal (chain_between v w)))
    (Ok (different (steps_of v w)))

-- reduce the first load, then the second with what is left of the budget
abbrev pub match : List Rule → Load → Load → (room budget : ℕ) → Result Verdict Refusal
match t a b room budget =
    marked Step (reduce_at (Argument 1) t budget a) >>= λ v.
    marked Step (reduce_at (Argument 2) t (budget - length v.trail) b) >>= λ w.
    verdict room v w
