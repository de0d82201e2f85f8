use Rattle.std.proofs.Common.{◌≡◌, ◌+◌, ◌++◌, length, take, drop}
use Rattle.swapfile.specs.StoredLoads.{counts_bytes, load_bytes}
use Rattle.filewriter.proofs.stored_load.LoadWritten.write.Given as goal

abbrev pub invariant-loop-count : goal.invariant-loop-count
invariant-loop-count l =
    let rest = counts_bytes (drop l.count-index l.count-items) in
    (l.at + length rest ≡ length l.out) × (take l.at l.out ++ rest ≡ load_bytes l.self)
