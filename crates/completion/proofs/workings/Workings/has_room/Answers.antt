use Rattle.std.proofs.Common.{arith}
use Rattle.std.proofs.lemmas.Bool.Decides.{nat_tests}
use Rattle.completion.proofs.Rooms.{roomy_is}
use Rattle.completion.proofs.workings.Workings.has_room.Goals as goal

pub returns-then-len-lt512 : goal.returns-then-len-lt512
returns-then-len-lt512 c = let e = roomy_is c.args.self.now c.args.numbers in grind (arith, nat_tests)

pub returns-else-len-lt512 : goal.returns-else-len-lt512
returns-else-len-lt512 c = let e = roomy_is c.args.self.now c.args.numbers in grind (arith, nat_tests)
