use Rattle.std.proofs.Common.{sym, ap, ◌∙◌, arith}
use Rattle.std.proofs.lemmas.Result.{err_from_is_err_and}
use Rattle.questions.proofs.Turns.{onward, row_skip, row_unformed, row_next}
use Rattle.questions.proofs.asking.ask_row.Goals as goal
use Rattle.questions.proofs.asking.ask_row.Goals.{then-shares+in_ok-question+in_ok-left, else-shares}

pub returns-in_err-question : goal.returns-in_err-question
returns-in_err-question c =
    let a = c.args in
    let p = err_from_is_err_and c.from_residual.result c.from_residual.ensures.1 in
    let next = row_unformed a.rules.now a.i a.rule.now a.after.now c.loop-j.left c.loop-j.j c.index-after-j.result (omega arith) c.index-after-j.is (sym c.if-shares.ensures) _ c.in_err-question.ensures in
    rw (p.1, p.2) (sym (c.loop-j.invariant ∙ next))

pub returns-in_err-left : goal.returns-in_err-left
returns-in_err-left c =
    let a = c.args in
    let p = err_from_is_err_and c.from_residual-in_err-left.result c.from_residual-in_err-left.ensures.1 in
    let next = row_next a.rules.now a.i a.rule.now a.after.now c.loop-j.left c.loop-j.j c.index-after-j.result (omega arith) c.index-after-j.is (sym c.if-shares.ensures) _ c.in_ok-question.ensures in
    rw (p.1, p.2) (sym (c.loop-j.invariant ∙ next ∙ ap (onward _) (sym c.in_err-left.ensures)))

-- this turn's question, then the rest
pub loop-j-preserved : goal.loop-j-preserved
loop-j-preserved c =
    let a = c.args in
    elim c.if-shares.branch [
      | then-shares+in_ok-question+in_ok-left w ↦
          let next = row_next a.rules.now a.i a.rule.now a.after.now c.loop-j.left c.loop-j.j c.index-after-j.result (omega arith) c.index-after-j.is (sym w.if-shares.ensures) _ w.in_ok-question.ensures in
          rw w.left-is (c.loop-j.invariant ∙ next ∙ ap (onward _) (sym w.in_ok-left.ensures))
      | else-shares w ↦
          rw w.left-is (c.loop-j.invariant ∙ row_skip a.rules.now a.i a.rule.now a.after.now c.loop-j.left c.loop-j.j c.index-after-j.result (omega arith) c.index-after-j.is (sym w.if-shares.ensures))
    ]
