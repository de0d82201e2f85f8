-- Faults with the place at which they were met.
use Rattle.std.specs.Prelude.{ℕ, ◌+◌, ◌*◌}
use Rattle.questions.specs.declared.placed.Place.{Place}
use Rattle.questions.specs.declared.placed.Place.TheVariants.{Entry, Pair, RightLoad, Argument}
use Rattle.questions.specs.declared.placed.Placed.{Placed}

-- the number by which a place is told outside
abbrev pub code : Place → ℕ
code (Entry k) = k
code (Pair i j) = 256 * i + j
code (RightLoad i) = 32768 + i
code (Argument n) = n

-- a fault met at a place
abbrev pub placed : {E : Type 0} → Place → E → Placed E
placed place e = record { fault = e; place = place }
