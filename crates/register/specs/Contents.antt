-- What a register holds.
use Rattle.std.specs.Prelude.{ℕ, zero, suc, ◌+◌, ◌-◌, cond, List, [], length, ℤ, Some, None, Option, nat_lt}
use Rattle.std.specs.Option.{option_map}
use Rattle.worksheet.specs.declared.equation.Equation.{Equation}
use Rattle.worksheet.specs.declared.rule.Rule.{Rule}
use Rattle.worksheet.specs.Claims.{nth}
use Rattle.worksheet.specs.Derivations.{Derivation}
use Rattle.completion.specs.States.{State}
use Rattle.soundness.specs.Sheets.{lines}

-- a book and, if the register is settled, its table and added lines
pub record Contents : Type 0 where
  pub book : List Equation
  pub sheet : Option State

-- a new register is open, with an empty book
abbrev pub new : Contents
new = record { book = []; sheet = None }

-- the rules; an open register has none
abbrev pub rules_in : Option State → List Rule
rules_in None = []
rules_in (Some s) = s.table

-- the added lines; an open register has none
abbrev pub added_in : Option State → List Derivation
added_in None = []
added_in (Some s) = s.added

-- the claims of all lines: the equations of the book, then the added lines
abbrev pub lines_of : Contents → List Equation
lines_of c = lines c.book (added_in c.sheet)

-- the claim of the line with a number, counted from 1
abbrev pub claim_at : Contents → ℕ → Option Equation
claim_at c zero = None
claim_at c (suc k) = nth (lines_of c) k

-- the chain of the added line with a number, counted from 1 over all lines; an equation has none
abbrev pub chain_at : Contents → ℕ → Option (List ℤ)
chain_at c n = cond (nat_lt (length c.book) n) (option_map (λ d. d.chain) (nth (added_in c.sheet) (n - (length c.book + 1)))) None
