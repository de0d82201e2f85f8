use Rattle.std.proofs.Common.{arith}
use Rattle.filewriter.proofs.Lengths.{load_long}
use Rattle.filewriter.proofs.stored_load.LoadWritten.size.Goals as goal

pub returns : goal.returns
returns c = omega (arith, c.kinds.ensures, load_long c.args.self.now)
