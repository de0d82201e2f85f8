use Rattle.std.proofs.Common.{ap, ◌∙◌}
use lib.Count.{ones}
use Rattle.loads.proofs.Bits.{ones-bits}
use Rattle.loads.proofs.Load.kinds.Goals as goal

pub returns : goal.returns
returns c = ap ones c.args.self.now.present ∙ ones-bits c.args.self.now.counts
