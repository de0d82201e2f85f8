use Rattle.orders.proofs.Endless.{no_endless_row}
use Rattle.orders.proofs.theorems.no_endless_row.Goals as goal

pub returns : goal.returns
returns g c = no_endless_row (g.met.O.Order.laws c.args.order.now)
