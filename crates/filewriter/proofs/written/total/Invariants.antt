use Rattle.std.proofs.Common.{◌≡◌, ◌+◌, length, drop}
use Rattle.std.specs.List.{flat_map}
use Rattle.filewriter.proofs.written.total.Given as goal

abbrev pub invariant-loop-x : goal.invariant-loop-x
invariant-loop-x g l = l.sum + length (flat_map g.W.Written.bytes (drop l.x-index l.row)) ≡ length (flat_map g.W.Written.bytes l.row)
