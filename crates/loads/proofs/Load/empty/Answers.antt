use Rattle.std.proofs.Common.{refl}
use Rattle.loads.proofs.Algebra.{same}
use Rattle.loads.proofs.Load.empty.Goals as goal

pub returns : goal.returns
returns c = same (λ k. refl)
