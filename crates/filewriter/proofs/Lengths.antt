-- How many bytes records take.
use Rattle.std.proofs.Common.{◌≡◌, ◌+◌, ◌*◌, length, arith}
use Rattle.loads.specs.declared.Load.{Load}
use Rattle.loads.specs.Presence.{kinds}
use Rattle.loads.proofs.Bits.{ones-bits}
use Rattle.swapfile.specs.StoredLoads.{load_bytes}
use Rattle.swapfile.proofs.LoadTrip.{counts_long}

-- a load: two for each kind, and its presence byte
pub load_long : (x : Load) → length (load_bytes x) ≡ 1 + 2 * kinds x
load_long x = omega (arith, counts_long x.counts, ones-bits x.counts)
