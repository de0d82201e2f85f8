-- Rows of bytes, and numbers of two bytes in them, the low byte first.
use Rattle.std.specs.Prelude.{ℕ, ◌+◌, ◌*◌, ◌/◌, ◌%◌, ◌<◌, List, [], ◌∷◌, slice_index}

-- each element of a row is a byte
abbrev pub Bytes : List ℕ → Type 0
Bytes b = (i : ℕ) → slice_index b i < 256

-- the number that stands at a byte
abbrev pub number_at : List ℕ → ℕ → ℕ
number_at b at = slice_index b at + 256 * slice_index b (at + 1)

-- the two bytes of a number
abbrev pub number_bytes : ℕ → List ℕ
number_bytes n = n % 256 ∷ n / 256 ∷ []

-- how many they are
abbrev pub number_size : List ℕ → ℕ → ℕ
number_size b at = 2
