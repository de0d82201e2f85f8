-- The record of an added line: its two loads and the length of its chain.
use Rattle.std.specs.Prelude.{ℕ, ◌+◌, Bool, ◌&&◌, List, ◌++◌, nat_le}
use Rattle.worksheet.specs.declared.line.Line.{Line}
use Rattle.swapfile.specs.Bytes.{number_at, number_bytes}
use Rattle.swapfile.specs.Sides.{sides_size}
use Rattle.swapfile.specs.Equations.{equation_bytes, equation_at, equation_fits}

-- its bytes
abbrev pub line_bytes : Line → List ℕ
line_bytes l = equation_bytes l.claim ++ number_bytes l.length

-- how many there are, where it begins at a byte
abbrev pub line_size : List ℕ → ℕ → ℕ
line_size b at = sides_size b at + 2

-- the line itself
abbrev pub line_at : List ℕ → ℕ → Line
line_at b at = record { claim = equation_at b at; length = number_at b (at + sides_size b at) }

-- its numbers have two bytes each
abbrev pub line_fits : Line → Bool
line_fits l = equation_fits l.claim && nat_le l.length 65535
