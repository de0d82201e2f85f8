use Rattle.std.proofs.Common.{◌∙◌, rules, tests}
use Rattle.std.proofs.lemmas.Iterator.{YieldsList-from_slice}
use Rattle.std.proofs.lemmas.Iterator.Search.{position_from_yields_List}
use Rattle.worksheet.specs.declared.rule.Rule.{Rule}
use Rattle.loads.specs.Tests.{contains}
use Rattle.rewriting.proofs.Searching.{search_position}
use Rattle.rewriting.proofs.search.search.Goals as goal

pub returns : goal.returns
returns c =
    let t = c.args.table.now in
    let a = c.args.load.now in
    let e = position_from_yields_List (λ (r : Rule). contains a r.left) _ _ c.position.result c.position.ensures.ran (YieldsList-from_slice t cc) (λ x r q k. search (rules, tests)) in
    let f = e ∙ search_position t a in
    record { is = search (rules, tests, f); within = search rules }
