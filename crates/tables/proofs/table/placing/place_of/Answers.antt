use Rattle.std.proofs.Common.{rules, tests}
use Rattle.std.proofs.lemmas.Iterator.{YieldsList-from_slice}
use Rattle.std.proofs.lemmas.Iterator.Search.{position_from_yields_List}
use Rattle.tables.proofs.Places.{stops, enters_at}
use Rattle.tables.proofs.table.placing.place_of.Goals as goal

-- the place found is that of the first rule that stops this one
pub returns-clause-place : goal.returns-clause-place
returns-clause-place g c =
    let above = g.O.Order.above c.args.order.now in
    enters_at above c.args.rule.now c.args.rules.now c.position.result c.unwrap_or.result
    (position_from_yields_List (stops above c.args.rule.now) _ _ _ c.position.ensures.ran (YieldsList-from_slice c.args.rules.now cc) (λ x b q k. search (rules, tests))) c.unwrap_or.ensures
