-- What a file holds, and how much of it there may be.
use Rattle.std.specs.Prelude.{◌≡◌, ℕ, Bool, true, ◌&&◌, List, length, ℤ, nat_le}
use Rattle.std.specs.List.{AllByRecursion}
use Rattle.worksheet.specs.declared.equation.Equation.{Equation}
use Rattle.worksheet.specs.declared.line.Line.{Line}
use Rattle.worksheet.specs.declared.rule.Rule.{Rule}
use Rattle.swapfile.specs.Equations.{equation_fits}
use Rattle.swapfile.specs.Rules.{rule_fits}
use Rattle.swapfile.specs.Lines.{line_fits}
use Rattle.swapfile.specs.ChainNumbers.{ChainNumberFits}

-- the equations of a book, the rules of a table, the added lines of a worksheet and the numbers of all their chains
pub record Content : Type 0 where
  pub equations : List Equation
  pub rules : List Rule
  pub lines : List Line
  pub chain : List ℤ

-- the content of four rows
abbrev pub content_of : List Equation → List Rule → List Line → List ℤ → Content
content_of es rs ls zs = record { equations = es; rules = rs; lines = ls; chain = zs }

-- how many equations, rules, added lines and chain numbers a file may hold
abbrev pub equation_limit : ℕ
equation_limit = 32

abbrev pub rule_limit : ℕ
rule_limit = 128

abbrev pub line_limit : ℕ
line_limit = 512

abbrev pub chain_limit : ℕ
chain_limit = 4096

-- the content keeps the limits
abbrev pub few : Content → Bool
few m =
    nat_le (length m.equations) equation_limit
    && nat_le (length m.rules) rule_limit
    && nat_le (length m.lines) line_limit
    && nat_le (length m.chain) chain_limit

-- it does, and each of its numbers has two bytes
pub record Within (m : Content) : Type 0 where
  pub limits : few m ≡ true
  pub equations : AllByRecursion (λ e. equation_fits e ≡ true) m.equations
  pub rules : AllByRecursion (λ r. rule_fits r ≡ true) m.rules
  pub lines : AllByRecursion (λ l. line_fits l ≡ true) m.lines
  pub chain : AllByRecursion ChainNumberFits m.chain
