-- Two loads and a number behind them: the records of a rule and of an added line.
use Rattle.std.specs.Prelude.{ℕ, ◌+◌, List}
use Rattle.swapfile.specs.declared.items.NumberedItem.{NumberedItem}
use Rattle.swapfile.specs.Bytes.{number_at}
use Rattle.swapfile.specs.Sides.{sides_size}
use Rattle.swapfile.specs.Equations.{equation_item}

-- how many bytes there are, where the first load begins at a byte
abbrev pub numbered_size : List ℕ → ℕ → ℕ
numbered_size b at = sides_size b at + 2

-- where the loads stand, and the number
abbrev pub numbered_item : List ℕ → ℕ → NumberedItem
numbered_item b at = record { sides = equation_item b at; number = number_at b (at + sides_size b at) }
