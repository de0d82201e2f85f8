-- What a reader of a file shows.
use Rattle.std.specs.Prelude.{ℕ, List, Ok, Result}
use Rattle.loads.specs.Answers.{◌>>=◌}
use Rattle.swapfile.specs.declared.fault.FileFault.{FileFault}
use Rattle.swapfile.specs.Layout.{Layout, layout}
use Rattle.swapfile.specs.WellFormed.{well_formed}

-- the sections of a file, or the first fault of bytes that are none
abbrev pub laid_out : List ℕ → Result Layout FileFault
laid_out b = well_formed b >>= λ _. Ok (layout b)
