use Rattle.std.proofs.Common.{length, sym, ap, ◌∙◌, subst}
use Rattle.tables.proofs.Signs.{cited_ahead, cited_back}
use Rattle.questions.specs.Questions.{Cited}
use Rattle.completion.specs.Adding.{between}
use Rattle.completion.proofs.Rows.{one_place, two-places}
use Rattle.completion.proofs.chaining.cross.Goals as goal

pub returns-in-Forward : goal.returns-in-Forward
returns-in-Forward c =
    let e = c.in-Forward.is in
    one_place c.args.row.now _ _ (c.requires.long ∙ ap (λ b. length (between b)) e) (cited_ahead c.in-Forward.k (subst Cited e c.requires.cited)) ∙ ap between (sym e)

pub returns-in-Backward : goal.returns-in-Backward
returns-in-Backward c =
    let e = c.in-Backward.is in
    one_place c.args.row.now _ _ (c.requires.long ∙ ap (λ b. length (between b)) e) (cited_back c.in-Backward.k (subst Cited e c.requires.cited)) ∙ ap between (sym e)

pub returns-in-Peak : goal.returns-in-Peak
returns-in-Peak c =
    let e = c.in-Peak.is in
    let h = subst Cited e c.requires.cited in
    two-places c.args.row.now _ _ _ _ (c.requires.long ∙ ap (λ b. length (between b)) e) (cited_back c.in-Peak.i h.0) (cited_ahead c.in-Peak.j h.1) ∙ ap between (sym e)
