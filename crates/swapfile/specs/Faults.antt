-- The faults of a file by their numbers and places.
use Rattle.std.specs.Prelude.{ℕ}
use Rattle.swapfile.specs.declared.fault.FileFault.{FileFault}
use Rattle.swapfile.specs.declared.fault.FileFault.TheVariants.{Header, Offset, Record, ZeroCount}

-- the number under which a fault is told
abbrev pub number : FileFault → ℕ
number (Header at) = 14
number (Offset at) = 15
number (Record at) = 16
number (ZeroCount at) = 17

-- the byte at which it shows
abbrev pub place : FileFault → ℕ
place (Header at) = at
place (Offset at) = at
place (Record at) = at
place (ZeroCount at) = at
