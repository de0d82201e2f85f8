use Rattle.std.proofs.Common.{is_some, ap, ◌∙◌}
use Rattle.rewriting.specs.Reducing.{fitting}
use Rattle.adoption.proofs.Loops.{search_finds, turned_test}
use Rattle.adoption.proofs.rules.unfit.Goals as goal

pub returns : goal.returns
returns c =
    turned_test (is_some c.search.result) c.is_none.result (is_some (fitting c.args.rules.now c.args.load.now)) c.is_none.ensures
    (ap is_some c.search.ensures.is ∙ search_finds 0 c.args.rules.now c.args.load.now)
