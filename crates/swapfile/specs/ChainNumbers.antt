-- The record of a chain number: two bytes, in two's complement.
use Rattle.std.specs.Prelude.{ℕ, List, ℤ, None, Option, FitsSigned}
use Rattle.std.proofs.Common.{to_z, of_z}
use Rattle.std.specs.Int.{w16}
use Rattle.swapfile.specs.Bytes.{number_at, number_bytes}

-- its bytes
abbrev pub chain_number_bytes : ℤ → List ℕ
chain_number_bytes z = number_bytes (of_z w16 z)

-- how many there are, wherever it begins
abbrev pub chain_number_size : List ℕ → ℕ → ℕ
chain_number_size b at = 2

-- the number itself
abbrev pub chain_number_at : List ℕ → ℕ → ℤ
chain_number_at b at = to_z w16 (number_at b at)

-- it has no load, and so no count that is 0
abbrev pub chain_number_zero : List ℕ → ℕ → Option ℕ
chain_number_zero b at = None

-- it lies from −32,768 to 32,767
abbrev pub ChainNumberFits : ℤ → Type 0
ChainNumberFits z = FitsSigned w16 z
