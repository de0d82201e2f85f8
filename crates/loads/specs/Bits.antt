-- A bit for each count of a row.
use Rattle.std.specs.Prelude.{ℕ, zero, suc, ◌+◌, ◌*◌, List, [], ◌∷◌}

-- 1 for an article that is there
abbrev pub bit : ℕ → ℕ
bit zero = 0
bit (suc c) = 1

-- a bit for each count, the lowest for the first
abbrev pub bits : List ℕ → ℕ
bits [] = 0
bits (c ∷ cs) = bit c + 2 * bits cs
