-- What numbers gathered bit by bit tell of each of them.
use Rattle.std.proofs.Common.{◌≡◌, ℕ, arith}
use lib.Bits.{bit_or, or_add_and, and_le_l, and_le_r}

-- nothing was gathered
pub or_none : (a b : ℕ) → bit_or a b ≡ 0 → (a ≡ 0) × (b ≡ 0)
or_none a b e = (omega (arith, or_add_and a b, and_le_l a b, and_le_r a b), omega (arith, or_add_and a b, and_le_l a b, and_le_r a b))

pub none_or : (a b : ℕ) → a ≡ 0 → b ≡ 0 → bit_or a b ≡ 0
none_or a b e f = omega (arith, or_add_and a b)
