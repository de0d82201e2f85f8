use Rattle.std.proofs.Common.{get_or, pos, sym, ◌∙◌, arith, w16, SFits, rules}
use Rattle.std.proofs.lemmas.Int.{to_z-of_z}
use Rattle.std.proofs.lemmas.Result.{err_from_is_err_and}
use Rattle.worksheet.specs.Claims.{claimed}
use Rattle.worksheet.proofs.Following.{stops, goes_on, ends}
use Rattle.worksheet.proofs.lines.Lines.replay.Goals as goal

pub returns-in_err-at : goal.returns-in_err-at
returns-in_err-at c =
    let l = c.loop-i in
    let f : SFits w16 (get_or c.args.chain.now l.i (pos 0)) = search rules in
    let p = err_from_is_err_and c.from_residual.result c.from_residual.ensures.1 in
    rw (p.1, p.2) (sym (l.invariant ∙ stops (claimed c.args.self.now) c.args.chain.now l.i l.at _ (omega arith) (sym (simp to_z-of_z at c.in_err-at.ensures))))

pub loop-i-preserved : goal.loop-i-preserved
loop-i-preserved c =
    let l = c.loop-i in
    let f : SFits w16 (get_or c.args.chain.now l.i (pos 0)) = search rules in
    l.invariant ∙ goes_on (claimed c.args.self.now) c.args.chain.now l.i l.at _ (omega arith) (sym (simp to_z-of_z at c.in_ok-at.ensures))

pub returns : goal.returns
returns c = sym (c.loop-i.invariant ∙ ends (claimed c.args.self.now) c.args.chain.now c.loop-i.i c.loop-i.at (omega arith))
