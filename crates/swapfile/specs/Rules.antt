-- The record of a rule: its two loads and the number of its line.
use Rattle.std.specs.Prelude.{ℕ, ◌+◌, Bool, ◌&&◌, List, ◌++◌, nat_le}
use Rattle.loads.specs.Tests.{fits}
use Rattle.worksheet.specs.declared.rule.Rule.{Rule}
use Rattle.swapfile.specs.Bytes.{number_at, number_bytes}
use Rattle.swapfile.specs.StoredLoads.{load_at}
use Rattle.swapfile.specs.Sides.{sides_bytes, sides_size, right_at}

-- its bytes
abbrev pub rule_bytes : Rule → List ℕ
rule_bytes r = sides_bytes r.left r.right ++ number_bytes r.line

-- how many there are, where it begins at a byte
abbrev pub rule_size : List ℕ → ℕ → ℕ
rule_size b at = sides_size b at + 2

-- the rule itself
abbrev pub rule_at : List ℕ → ℕ → Rule
rule_at b at = record { left = load_at b at; right = load_at b (right_at b at); line = number_at b (at + sides_size b at) }

-- its numbers have two bytes each
abbrev pub rule_fits : Rule → Bool
rule_fits r = fits r.left && fits r.right && nat_le r.line 65535
