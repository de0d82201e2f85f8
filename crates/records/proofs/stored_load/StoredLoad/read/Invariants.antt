use Rattle.records.proofs.Loads.{Reading}
use Rattle.records.proofs.stored_load.StoredLoad.read.Given as goal

abbrev pub invariant-loop-count : goal.invariant-loop-count
invariant-loop-count l = Reading l.self.bytes.now l.count-items l.count-index l.left l.place l.self.at
