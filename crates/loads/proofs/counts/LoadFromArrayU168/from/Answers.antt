use Rattle.std.proofs.Common.{sym, arith}
use Rattle.loads.proofs.Algebra.{same, at-of_counts}
use Rattle.loads.proofs.counts.LoadFromArrayU168.from.Goals as goal

pub returns : goal.returns
returns c = same (λ k. sym (at-of_counts c.args.counts (omega arith) k))
