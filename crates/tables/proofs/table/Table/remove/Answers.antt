use Rattle.std.proofs.Common.{◌≡◌, vec_items, ap, ◌∙◌, arith, rules}
use Rattle.std.proofs.lemmas.Fn.{filter_same}
use Rattle.tables.specs.Placing.{without}
use Rattle.tables.specs.Citing.{citable}
use Rattle.tables.proofs.Citing.{citable-without}
use Rattle.tables.proofs.table.Table.remove.Goals as goal

-- the rules that stay
pub returns : goal.returns
returns c = filter_same _ _ _ (λ x b f' k. search rules) _ _ c.retain.ensures.filtered ∙ ap (without c.args.load.now) c.self.view_is

pub invariant_of-self : goal.invariant_of-self
invariant_of-self c =
    let t = vec_items c.self.inside.rules in
    let kept : vec_items c.retain.new.self ≡ without c.args.load.now t = filter_same _ _ _ (λ x b f' k. search rules) _ _ c.retain.ensures.filtered in
    record { room = omega arith; few = omega arith; cited = ap citable kept ∙ citable-without c.args.load.now t c.self.invariant.cited }
