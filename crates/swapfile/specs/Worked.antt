-- The file of a book with the one equation a² = b, settled under the report order.
use Rattle.std.specs.Prelude.{◌≡◌, ℕ, List, [], ◌∷◌, pos, Ok}
use Rattle.loads.specs.declared.Load.{Load}
use Rattle.loads.specs.Loads.{of_counts}
use Rattle.worksheet.specs.declared.equation.Equation.{Equation}
use Rattle.swapfile.specs.Content.{Content}
use Rattle.swapfile.specs.Decoding.{decode}
use Rattle.swapfile.specs.Encoding.{encode}

-- two of article 1
abbrev a² : Load
a² = of_counts (2 ∷ [])

-- one of article 2
abbrev b¹ : Load
b¹ = of_counts (0 ∷ 1 ∷ [])

-- the equation
abbrev a²=b : Equation
a²=b = record { left = a²; right = b¹ }

-- the rule a² → b is claimed by line 2, the added line, whose chain is line 1 forward
abbrev pub worked : Content
worked = record {
  equations = a²=b ∷ [];
  rules = record { left = a²; right = b¹; line = 2 } ∷ [];
  lines = record { claim = a²=b; length = 1 } ∷ [];
  chain = pos 1 ∷ [];
}

-- its 40 bytes: the header, an equation, a rule, a line and a chain number
abbrev pub worked_bytes : List ℕ
worked_bytes =
    0x01 ∷ 0x00 ∷ 0x01 ∷ 0x00 ∷ 0x01 ∷ 0x00 ∷ 0x01 ∷ 0x00 ∷ 0x10 ∷ 0x00 ∷ 0x16 ∷ 0x00 ∷ 0x1E ∷ 0x00 ∷ 0x26 ∷ 0x00
    ∷ 0x01 ∷ 0x02 ∷ 0x00 ∷ 0x02 ∷ 0x01 ∷ 0x00
    ∷ 0x01 ∷ 0x02 ∷ 0x00 ∷ 0x02 ∷ 0x01 ∷ 0x00 ∷ 0x02 ∷ 0x00
    ∷ 0x01 ∷ 0x02 ∷ 0x00 ∷ 0x02 ∷ 0x01 ∷ 0x00 ∷ 0x01 ∷ 0x00
    ∷ 0x01 ∷ 0x00 ∷ []

-- they are written, and they are read
abbrev pub Worked : Type 0
Worked = (encode worked ≡ worked_bytes) × (decode worked_bytes ≡ Ok worked)
