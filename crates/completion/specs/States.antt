-- What the rounds work on, and what a call on it answers and leaves.
use Rattle.std.specs.Prelude.{List, [], ℤ, Ok, Err, vec_items, Result}
use Rattle.loads.specs.Answers.{◌>>=◌}
use Rattle.worksheet.specs.declared.line.Line.{Line}
use Rattle.worksheet.specs.declared.rule.Rule.{Rule}
use Rattle.completion.specs.declared.workings.Workings.{Workings}
use Rattle.worksheet.specs.Derivations.{Derivation, derivations}

-- the table, and the lines added to the worksheet
pub record State : Type 0 where
  pub table : List Rule
  pub added : List Derivation

-- no rule and no added line
abbrev pub blank : State
blank = record { table = []; added = [] }

-- the added lines, and the row of all chain numbers
abbrev pub lines_of : Workings → List Line
lines_of w = vec_items w.lines

abbrev pub chain_of : Workings → List ℤ
chain_of w = vec_items w.chain

-- what the workings hold
abbrev pub held : Workings → State
held w = record { table = w.table; added = derivations (lines_of w) (chain_of w) }

-- what a call answers
abbrev pub answered : {X S E : Type 0} → Result (X × S) E → Result X E
answered x = x >>= λ p. Ok p.0

-- what a call leaves; a refused one leaves all as it was
abbrev pub leaves : {X S E : Type 0} → S → Result (X × S) E → S
leaves s (Ok p) = p.1
leaves s (Err e) = s
