use Rattle.std.proofs.Common.{refl}
use Rattle.orders.specs.Relations.{listed, bulk, weighed}
use Rattle.orders.proofs.theorems.worked_comparisons.Goals as goal

pub returns : goal.returns
unfolding listed bulk weighed
returns c = (refl, refl, refl, refl)
