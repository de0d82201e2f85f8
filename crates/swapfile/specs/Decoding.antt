-- What the bytes of a file say.
use Rattle.std.specs.Prelude.{◌≡◌, ℕ, true, List, length, Ok, Result}
use Rattle.loads.specs.Answers.{◌>>=◌}
use Rattle.swapfile.specs.declared.fault.FileFault.{FileFault}
use Rattle.swapfile.specs.Sections.{values}
use Rattle.swapfile.specs.Equations.{equation_size, equation_at}
use Rattle.swapfile.specs.Rules.{rule_size, rule_at}
use Rattle.swapfile.specs.Lines.{line_size, line_at}
use Rattle.swapfile.specs.ChainNumbers.{chain_number_size, chain_number_at}
use Rattle.swapfile.specs.Content.{Content, few}
use Rattle.swapfile.specs.Layout.{Layout, layout}
use Rattle.swapfile.specs.WellFormed.{well_formed}

-- what the records of the sections say
abbrev pub content : Layout → Content
content p = record {
  equations = values equation_size equation_at p.equations;
  rules = values rule_size rule_at p.rules;
  lines = values line_size line_at p.lines;
  chain = values chain_number_size chain_number_at p.chain;
}

-- the content of a file, or the first fault of bytes that are none
abbrev pub decode : List ℕ → Result Content FileFault
decode b = well_formed b >>= λ _. Ok (content (layout b))

-- the sections say as much as they tell, within the limits
pub record Counted (p : Layout) : Type 0 where
  pub equations : length (content p).equations ≡ p.equations.count
  pub rules : length (content p).rules ≡ p.rules.count
  pub lines : length (content p).lines ≡ p.lines.count
  pub chain : length (content p).chain ≡ p.chain.count
  pub limits : few (content p) ≡ true
