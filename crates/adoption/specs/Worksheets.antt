-- The conditions on a file's equations and lines.
use Rattle.std.specs.Prelude.{ℕ, ◌+◌, ◌-◌, Bool, ◌&&◌, List, [], ◌∷◌, ◌++◌, length, ℤ, Ok, Err, Result, ◌==◌, nat_le}
use Rattle.loads.specs.Answers.{◌>>=◌, check, marked}
use Rattle.loads.specs.Tests.{alike}
use Rattle.worksheet.specs.declared.equation.Equation.{Equation}
use Rattle.worksheet.specs.declared.line.Line.{Line}
use Rattle.worksheet.specs.Derivations.{Derivation, derivations}
use Rattle.worksheet.specs.Replay.{replay}
use Rattle.adoption.specs.declared.fault.WorksheetFault.{WorksheetFault}
use Rattle.adoption.specs.declared.fault.WorksheetFault.TheVariants.{OtherCount, Differs, TooHigh, TooLow, Replay, Elsewhere}

-- the sides are the same loads
abbrev pub same_sides : Equation → Equation → Bool
same_sides d e = alike d.left e.left && alike d.right e.right

-- the equations agree one by one; the first has number k
abbrev pub agree : (k : ℕ) → (own file : List Equation) → Result (Unit {0}) WorksheetFault
agree k [] [] = Ok tt
agree k [] (e ∷ file) = Err OtherCount
agree k (d ∷ own) [] = Err OtherCount
agree k (d ∷ own) (e ∷ file) = check (same_sides d e) (Differs k) >>= λ _. agree (k + 1) own file

-- the file has the register's own equations: as many, and the same
abbrev pub own_equations : (own file : List Equation) → Result (Unit {0}) WorksheetFault
own_equations own file = check (length own == length file) OtherCount >>= λ _. agree 1 own file

-- the lines, the first of them with number n, take all the chain numbers that are left, and no more
abbrev pub even_chains : (n : ℕ) → List Line → (left : ℕ) → Result (Unit {0}) WorksheetFault
even_chains n [] left = check (left == 0) TooLow
even_chains n (l ∷ ls) left = check (nat_le l.length left) (TooHigh n) >>= λ _. even_chains (n + 1) ls (left - l.length)

-- the line's chain leads from its left load to its right load, by the lines before it; its number is the next
abbrev pub line_replays : (known : List Equation) → Derivation → Result (Unit {0}) WorksheetFault
line_replays known d =
    marked (Replay (length known + 1)) (replay known 1 d.chain d.claim.left) >>= λ b.
    check (alike b d.claim.right) (Elsewhere (length known + 1))

-- so do all lines, one after another
abbrev pub lines_replay : (known : List Equation) → List Derivation → Result (Unit {0}) WorksheetFault
lines_replay known [] = Ok tt
lines_replay known (d ∷ ds) = line_replays known d >>= λ _. lines_replay (known ++ (d.claim ∷ [])) ds

-- the lines take all chain numbers, and then each of them replays
abbrev pub lines_hold : List Equation → List Line → List ℤ → Result (Unit {0}) WorksheetFault
lines_hold book ls zs = even_chains (length book + 1) ls (length zs) >>= λ _. lines_replay book (derivations ls zs)

-- the conditions on the worksheet, in order
abbrev pub worksheet_holds : (own file : List Equation) → List Line → List ℤ → Result (Unit {0}) WorksheetFault
worksheet_holds own file ls zs = own_equations own file >>= λ _. lines_hold own ls zs
