-- The lines of a worksheet by what they claim, and what a chain number names.
use Rattle.std.specs.Prelude.{ℕ, zero, suc, List, [], ◌∷◌, ◌++◌, map, ℤ, pos, negsuc, Some, None, Option}
use Rattle.worksheet.specs.declared.equation.Equation.{Equation}
use Rattle.worksheet.specs.declared.line.Line.{Line}
use Rattle.worksheet.specs.declared.lines.Lines.{Lines}

-- the equation the other way round
abbrev pub turned : Equation → Equation
turned e = record { left = e.right; right = e.left }

-- lines 1 to n claim the n equations of the book; then come the added lines
abbrev pub claims : List Equation → List Line → List Equation
claims book added = book ++ map (λ l. l.claim) added

-- what the lines of a worksheet claim, by their numbers
abbrev pub claimed : Lines → List Equation
claimed ls = claims ls.book.now ls.added.now

-- what stands at a place, counted from 0
abbrev pub nth : {X : Type 0} → List X → ℕ → Option X
nth [] k = None
nth (x ∷ xs) zero = Some x
nth (x ∷ xs) (suc k) = nth xs k

-- the same equation, if there is one, the other way round
abbrev pub turned_about : Option Equation → Option Equation
turned_about None = None
turned_about (Some e) = Some (turned e)

-- the equation that a chain number applies, left to right: line k forward is k, backward −k
abbrev pub named : List Equation → ℤ → Option Equation
named ls (pos zero) = None
named ls (pos (suc k)) = nth ls k
named ls (negsuc k) = turned_about (nth ls k)
