-- Added lines with their chains.
use Rattle.std.specs.Prelude.{ℕ, List, [], ◌∷◌, take, drop, ℤ, sum_by}
use Rattle.worksheet.specs.declared.equation.Equation.{Equation}
use Rattle.worksheet.specs.declared.line.Line.{Line}

-- a claim, and the chain that derives it
pub record Derivation : Type 0 where
  pub claim : Equation
  pub chain : List ℤ

-- each line takes its own numbers from the row of all chain numbers
abbrev pub derivations : List Line → List ℤ → List Derivation
derivations [] zs = []
derivations (l ∷ ls) zs = record { claim = l.claim; chain = take l.length zs } ∷ derivations ls (drop l.length zs)

-- how many chain numbers the lines have together
abbrev pub lengths : List Line → ℕ
lengths ls = sum_by (λ l. l.length) ls
