use Rattle.std.proofs.Common.{refl}
use Rattle.loads.specs.Tests.{contains, alike, shares, fits}
use Rattle.orders.specs.Relations.{listed, weighed}
use Rattle.books.proofs.worked_books.Goals as goal

pub returns : goal.returns
unfolding contains alike shares fits listed weighed
returns c = (refl, refl, refl, refl, refl)
