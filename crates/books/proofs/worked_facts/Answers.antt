use Rattle.std.proofs.Common.{refl}
use Rattle.loads.specs.Tests.{contains, alike, shares, fits}
use Rattle.loads.specs.Exchange.{exchanged}
use Rattle.orders.specs.Relations.{listed, bulk, weighed}
use Rattle.books.proofs.worked_facts.Goals as goal

pub returns : goal.returns
unfolding contains alike shares fits exchanged listed bulk weighed
returns c = (refl, refl, refl, refl, refl, refl, refl, refl, refl, refl, refl, refl, refl, refl, refl)
