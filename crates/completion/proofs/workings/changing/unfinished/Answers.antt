use Rattle.std.proofs.Common.{is_some, sym, ap, ◌∙◌, arith}
use Rattle.completion.proofs.Renewing.{unfinished_here, unfinished_next}
use Rattle.completion.proofs.workings.changing.unfinished.Goals as goal

pub returns-then-is_some-clause-is : goal.returns-then-is_some-clause-is
returns-then-is_some-clause-is c =
    sym (c.loop-place.invariant
    ∙ unfinished_here c.args.rules.now c.loop-place.place c.index-rules-place.result (omega arith) c.index-rules-place.is (ap is_some (sym c.search.ensures.is) ∙ sym c.if-is_some.ensures))

pub loop-place-preserved : goal.loop-place-preserved
loop-place-preserved c =
    c.loop-place.invariant
    ∙ unfinished_next c.args.rules.now c.loop-place.place c.index-rules-place.result (omega arith) c.index-rules-place.is (ap is_some (sym c.search.ensures.is) ∙ sym c.if-is_some.ensures)
