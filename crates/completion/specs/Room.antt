-- The room of a worksheet.
use Rattle.std.specs.Prelude.{ℕ, ◌+◌, Bool, ◌&&◌, List, length, sum_by, nat_le, nat_lt}
use Rattle.worksheet.specs.Derivations.{Derivation}

-- how many chain numbers the added lines have together
abbrev pub numbers : List Derivation → ℕ
numbers ds = sum_by (λ d. length d.chain) ds

-- one more line, with n chain numbers, passes no limit: 512 added lines, 4,096 chain numbers in all
abbrev pub roomy : List Derivation → ℕ → Bool
roomy ds n = nat_lt (length ds) 512 && nat_le (numbers ds + n) 4096
