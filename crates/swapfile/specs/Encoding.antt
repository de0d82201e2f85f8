-- The bytes that are written for a content.
use Rattle.std.specs.Prelude.{ℕ, ◌+◌, List, [], ◌∷◌, ◌++◌, length}
use Rattle.std.specs.List.{flat_map}
use Rattle.swapfile.specs.Bytes.{number_bytes}
use Rattle.swapfile.specs.Equations.{equation_bytes}
use Rattle.swapfile.specs.Rules.{rule_bytes}
use Rattle.swapfile.specs.Lines.{line_bytes}
use Rattle.swapfile.specs.ChainNumbers.{chain_number_bytes}
use Rattle.swapfile.specs.Content.{Content}

module _ (m : Content) where
  -- the four sections
  abbrev pub equations_bytes : List ℕ
  equations_bytes = flat_map equation_bytes m.equations

  abbrev pub rules_bytes : List ℕ
  rules_bytes = flat_map rule_bytes m.rules

  abbrev pub lines_bytes : List ℕ
  lines_bytes = flat_map line_bytes m.lines

  abbrev pub chain_bytes : List ℕ
  chain_bytes = flat_map chain_number_bytes m.chain

  -- the offset of each section but the first, which begins at byte 16
  abbrev pub rules_offset : ℕ
  rules_offset = 16 + length equations_bytes

  abbrev pub lines_offset : ℕ
  lines_offset = rules_offset + length rules_bytes

  abbrev pub chain_offset : ℕ
  chain_offset = lines_offset + length lines_bytes

  -- how many records each section has
  abbrev pub counts : List ℕ
  counts = length m.equations ∷ length m.rules ∷ length m.lines ∷ length m.chain ∷ []

  -- where each section begins
  abbrev pub offsets : List ℕ
  offsets = 16 ∷ rules_offset ∷ lines_offset ∷ chain_offset ∷ []

  -- the header and the sections, without gaps
  unfoldable pub encode : List ℕ
  encode = flat_map number_bytes counts ++ (flat_map number_bytes offsets ++ (equations_bytes ++ (rules_bytes ++ (lines_bytes ++ chain_bytes))))
