use Rattle.std.proofs.Common.{sym, ◌∙◌, subst}
use Rattle.rewriting.specs.declared.reduce.Reduced.{Reduced}
use Rattle.completion.specs.States.{held}
use Rattle.register.specs.Contents.{Contents}
use Rattle.register.specs.Promises.{StandardOf}
use Rattle.register.proofs.Answering.{view_settled, guarantee, placed_way}
use Rattle.register.proofs.Judging.{settled_with, standard_guaranteed}
use Rattle.register.proofs.register.Register.standard.Goals as goal

pub returns-clause-family : goal.returns-clause-family
returns-clause-family c =
    let g = c.args.self.now in
    let a = c.args.load.now in
    let s = held g.workings in
    let r = c.in_ok-reduced.reduced in
    let w = placed_way s.table _ c.args.budget a _ r _ (c.rules.ensures.value ∙ c.table.ensures) c.reduce.ensures.is c.in_ok-reduced.ensures in
    subst (λ (x : Contents). StandardOf x a r.end) (sym (view_settled g c.if-not-self.false))
    (subst (λ (e : Reduced). StandardOf (settled_with g.book s) a e.end) w.same (standard_guaranteed g.book s (guarantee g c.if-not-self.false) c.args.budget a w.way w.answered))
