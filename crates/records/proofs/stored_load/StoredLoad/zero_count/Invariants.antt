use Rattle.std.proofs.Common.{◌≡◌, ◌+◌, ◌-◌, ◌*◌, ◌/◌}
use Rattle.swapfile.specs.StoredLoads.{zero_from, load_zero}
use Rattle.records.proofs.stored_load.StoredLoad.zero_count.Given as goal

abbrev pub invariant-loop-place : goal.invariant-loop-place
invariant-loop-place l =
    let left = (l.self.end - l.place) / 2 in
    (l.place + 2 * left ≡ l.self.end) × (zero_from l.self.bytes.now left l.place ≡ load_zero l.self.bytes.now l.self.at)
