use Rattle.std.proofs.Common.{sym, ap, ◌∙◌}
use Rattle.std.proofs.lemmas.Result.{err_from_is_err_and}
use Rattle.questions.proofs.Turns.{onward, asks_all}
use Rattle.questions.proofs.asking.ask_all.Goals as goal

pub returns-in_err-left : goal.returns-in_err-left
returns-in_err-left c =
    let p = err_from_is_err_and c.from_residual.result c.from_residual.ensures.1 in
    let all = asks_all c.args.table.now c.rules-rules.result.now c.args.book.now c.equations.result.now c.args.budget c.rules-rules.ensures.value c.equations.ensures.value in
    rw (p.1, p.2) (sym (all ∙ ap (onward _) (sym c.in_err-left.ensures)))

pub returns : goal.returns
returns c =
    let all = asks_all c.args.table.now c.rules-rules.result.now c.args.book.now c.equations.result.now c.args.budget c.rules-rules.ensures.value c.equations.ensures.value in
    c.ask_pairs.ensures ∙ sym (all ∙ ap (onward _) (sym c.in_ok-left.ensures))
