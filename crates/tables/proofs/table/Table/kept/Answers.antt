use Rattle.std.proofs.Common.{◌≡◌, not, length, rules, tests}
use Rattle.std.proofs.lemmas.Iterator.{YieldsList-from_slice}
use Rattle.std.proofs.lemmas.Iterator.Consumers.{YieldsList-from_filter, count_from_yields_List}
use Rattle.worksheet.specs.declared.rule.Rule.{Rule}
use Rattle.loads.specs.Tests.{contains}
use Rattle.tables.specs.Placing.{without}
use Rattle.tables.proofs.table.Table.kept.Goals as goal

pub returns : goal.returns
returns c =
    let t = c.args.self.now in
    let a = c.args.load.now in
    let kept : c.count.result ≡ length (without a t) =
    count_from_yields_List c.filter.result c.count.result c.count.ensures.ran
    (YieldsList-from_filter _ (λ (r : Rule). not (contains r.left a)) (YieldsList-from_slice t cc) c.filter.ensures.closure (λ x b q k. search (rules, tests))) in
    search (rules, kept)
