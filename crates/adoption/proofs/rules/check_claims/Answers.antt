use Rattle.std.proofs.Common.{pos, sym, ◌∙◌, arith}
use Rattle.worksheet.specs.Claims.{claimed, named}
use Rattle.adoption.specs.declared.fault.TableFault.TheVariants.{NotClaimed}
use Rattle.adoption.specs.Tables.{stated}
use Rattle.adoption.proofs.Loops.{each-end, each_stop, each_next}
use Rattle.adoption.proofs.rules.check_claims.Goals as goal

pub returns-then-not-is_claimed : goal.returns-then-not-is_claimed
returns-then-not-is_claimed c =
    let ls = claimed c.args.lines.now in
    sym (c.loop-i.invariant ∙ each_stop (λ _ r. stated r (named ls (pos r.line))) NotClaimed c.args.rules.now c.loop-i.i c.index-rules-i.result (omega arith) c.index-rules-i.is c.if-not-is_claimed.ensures)

pub loop-i-preserved : goal.loop-i-preserved
loop-i-preserved c =
    let ls = claimed c.args.lines.now in
    c.loop-i.invariant ∙ each_next (λ _ r. stated r (named ls (pos r.line))) NotClaimed c.args.rules.now c.loop-i.i c.index-rules-i.result (omega arith) c.index-rules-i.is c.if-not-is_claimed.ensures

pub returns : goal.returns
returns c =
    let ls = claimed c.args.lines.now in
    sym (c.loop-i.invariant ∙ each-end (λ _ r. stated r (named ls (pos r.line))) NotClaimed c.args.rules.now c.loop-i.i (omega arith))
