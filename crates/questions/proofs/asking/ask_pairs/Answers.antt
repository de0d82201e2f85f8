use Rattle.std.proofs.Common.{◌+◌, ◌-◌, length, drop, sym, ap, ◌∙◌, arith, length-drop}
use Rattle.std.proofs.lemmas.List.{take_all}
use Rattle.std.proofs.lemmas.Result.{err_from_is_err_and}
use Rattle.questions.proofs.Turns.{onward, peaks_next}
use Rattle.questions.proofs.asking.ask_pairs.Goals as goal

pub returns-in_err-left : goal.returns-in_err-left
returns-in_err-left c =
    let p = err_from_is_err_and c.from_residual.result c.from_residual.ensures.1 in
    let t = c.args.rules.now in
    let i = c.loop-i.i in
    let after = take_all (length t - (i + 1)) (drop (i + 1) t) (omega (arith, length-drop (i + 1) t)) in
    let next = peaks_next t c.loop-i.left i c.index-rules-i.result _ (omega arith) c.index-rules-i.is after in
    rw (p.1, p.2) (sym (c.loop-i.invariant ∙ next ∙ ap (onward _) (sym c.in_err-left.ensures)))

-- this turn's row, then the rest
pub loop-i-preserved : goal.loop-i-preserved
loop-i-preserved c =
    let t = c.args.rules.now in
    let i = c.loop-i.i in
    let after = take_all (length t - (i + 1)) (drop (i + 1) t) (omega (arith, length-drop (i + 1) t)) in
    let next = peaks_next t c.loop-i.left i c.index-rules-i.result _ (omega arith) c.index-rules-i.is after in
    c.loop-i.invariant ∙ next ∙ ap (onward _) (sym c.in_ok-left.ensures)
