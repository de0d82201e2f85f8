-- The record of an equation: its two loads.
use Rattle.std.specs.Prelude.{ℕ, Bool, ◌&&◌, List}
use Rattle.loads.specs.Tests.{fits}
use Rattle.worksheet.specs.declared.equation.Equation.{Equation}
use Rattle.swapfile.specs.declared.items.EquationItem.{EquationItem}
use Rattle.swapfile.specs.StoredLoads.{load_at}
use Rattle.swapfile.specs.Sides.{sides_bytes, sides_size, right_at}

-- its bytes
abbrev pub equation_bytes : Equation → List ℕ
equation_bytes e = sides_bytes e.left e.right

-- how many there are, where it begins at a byte
abbrev pub equation_size : List ℕ → ℕ → ℕ
equation_size = sides_size

-- where its loads stand
abbrev pub equation_item : List ℕ → ℕ → EquationItem
equation_item b at = record { left = at; right = right_at b at }

-- the equation itself
abbrev pub equation_at : List ℕ → ℕ → Equation
equation_at b at = record { left = load_at b at; right = load_at b (right_at b at) }

-- its counts have two bytes each
abbrev pub equation_fits : Equation → Bool
equation_fits e = fits e.left && fits e.right
