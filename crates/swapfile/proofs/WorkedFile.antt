-- The file of a² = b, computed.
use Rattle.std.proofs.Common.{◌≡◌, Ok, refl}
use lib.Count.{ones}
use Rattle.swapfile.specs.StoredLoads.{counts_bytes, load_at, counts_at, zero_from}
use Rattle.swapfile.specs.Sections.{places_from, filled_from, zero_free_in}
use Rattle.swapfile.specs.Encoding.{encode}
use Rattle.swapfile.specs.WellFormed.{well_formed}
use Rattle.swapfile.specs.Decoding.{decode}
use Rattle.swapfile.specs.Worked.{worked, worked_bytes}

-- what is written for it
pub written : encode worked ≡ worked_bytes
unfolding encode counts_bytes
written = refl

-- what is read as it
pub read : decode worked_bytes ≡ Ok worked
unfolding well_formed places_from filled_from zero_free_in load_at counts_at zero_from ones
read = refl
