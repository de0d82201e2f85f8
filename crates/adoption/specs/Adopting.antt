-- Taking over what a file holds, and what a settled register has to hand over.
use Rattle.std.specs.Prelude.{ℕ, ◌-◌, List, [], ◌∷◌, ◌++◌, map, length, ℤ, Ok, Result}
use Rattle.loads.specs.Answers.{◌>>=◌, marked}
use Rattle.orders.specs.Laws.{Relation}
use Rattle.worksheet.specs.declared.equation.Equation.{Equation}
use Rattle.worksheet.specs.declared.line.Line.{Line}
use Rattle.worksheet.specs.Derivations.{Derivation, derivations}
use Rattle.completion.specs.States.{State}
use Rattle.swapfile.specs.Content.{Content}
use Rattle.adoption.specs.declared.fault.AdoptFault.{AdoptFault}
use Rattle.adoption.specs.declared.fault.AdoptFault.TheVariants.{Worksheet, Table}
use Rattle.adoption.specs.Worksheets.{worksheet_holds}
use Rattle.adoption.specs.Tables.{table_holds}

-- the table of a file, and its lines with their chains
abbrev pub state_of : Content → State
state_of m = record { table = m.rules; added = derivations m.lines m.chain }

-- the steps made, and the file's state, unless a condition fails
abbrev pub adopt : Relation → List Equation → (budget : ℕ) → Content → Result (ℕ × State) AdoptFault
adopt above book b m =
    marked Worksheet (worksheet_holds book m.equations m.lines m.chain) >>= λ _.
    marked Table (table_holds above book m.lines b m.rules) >>= λ left.
    Ok (b - left, state_of m)

-- a line as a file has it
abbrev pub line_of : Derivation → Line
line_of d = record { claim = d.claim; length = length d.chain }

-- the chains one after another
abbrev pub all_chains : List Derivation → List ℤ
all_chains [] = []
all_chains (d ∷ ds) = d.chain ++ all_chains ds

-- what the file of a settled register holds
abbrev pub content_of_state : List Equation → State → Content
content_of_state book s = record { equations = book; rules = s.table; lines = map line_of s.added; chain = all_chains s.added }
