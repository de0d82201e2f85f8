use Rattle.std.proofs.Common.{◌≡◌, ◌+◌, ◌++◌, length, take, drop}
use Rattle.std.specs.List.{flat_map}
use Rattle.filewriter.proofs.written.write_row.Given as goal

abbrev pub invariant-loop-x : goal.invariant-loop-x
invariant-loop-x g l =
    let rest = flat_map g.W.Written.bytes (drop l.x-index l.row) in
    (l.at + length rest ≡ length l.out) × (take l.at l.out ++ rest ≡ flat_map g.W.Written.bytes l.row)
