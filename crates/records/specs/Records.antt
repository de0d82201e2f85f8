-- Records that were read.
use Rattle.std.specs.Prelude.{ℕ, ◌+◌, List}
use Rattle.swapfile.specs.declared.items.Found.{Found}

-- the record at a byte, of a kind with these sizes and items: where it begins and ends, and what it says
abbrev pub found : {I : Type 0} → (List ℕ → ℕ → ℕ) → (List ℕ → ℕ → I) → List ℕ → ℕ → Found I
found size item b at = record { byte = at; item = item b at; end = at + size b at }
