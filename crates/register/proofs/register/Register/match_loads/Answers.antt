use Rattle.std.proofs.Common.{◌≡◌, ◌+◌, ◌-◌, ◌++◌, length, take, drop, Ok, sym, refl, ap, ◌∙◌, arith, rules, true, length-take}
use borrow.Rule.Slice.PartMut.{post_of}
use Rattle.std.proofs.lemmas.List.{take_at, drop_at}
use Rattle.loads.specs.Tests.{alike}
use Rattle.loads.proofs.Deciding.{same-alike}
use Rattle.rewriting.specs.declared.reduce.Reduced.{Reduced}
use Rattle.questions.specs.declared.placed.Place.TheVariants.{Argument}
use Rattle.questions.specs.Placed.{placed}
use Rattle.questions.proofs.Walking.{reduce_walked}
use Rattle.completion.specs.States.{held}
use Rattle.soundness.proofs.Answering.{marks}
use Rattle.register.specs.Matching.{equal, chain_between}
use Rattle.register.proofs.Answering.{placed_way, differs, equals, well_matched}
use Rattle.register.proofs.Between.{between_fills, length-between}
use Rattle.register.proofs.register.Register.match_loads.Goals as goal

pub returns-then-not-same : goal.returns-then-not-same
returns-then-not-same c =
    let g = c.args.self.now in
    let t = (held g.workings).table in
    let one = c.in_ok-one.one in
    let two = c.in_ok-two.two in
    let same = c.table-table.ensures in
    let p = placed_way t _ c.args.budget c.args.first.now _ one _ (c.rules.ensures.value ∙ same) c.reduce.ensures.is c.in_ok-one.ensures in
    let q = placed_way t _ (c.args.budget - one.steps) c.args.second.now _ two _ (c.rules-2.ensures.value ∙ same) c.reduce-2.ensures.is c.in_ok-two.ensures in
    let m = differs t c.args.first.now c.args.second.now (length c.args.chain.now) c.args.budget one two p q (sym (same-alike _ _) ∙ sym c.if-not-same.ensures) in
    let w = well_matched g c.if-not-self.false c.args.first.now c.args.second.now (length c.args.chain.now) c.args.budget _ m in
    record { did = w.did; refused = w.refused; kept = refl; right = w.right }

pub returns-then-steps-chain-clause-did : goal.returns-then-steps-chain-clause-did
returns-then-steps-chain-clause-did c =
    let e : alike c.in_ok-one.one.end c.in_ok-two.two.end ≡ true = sym (same-alike _ _) ∙ sym c.if-not-same.ensures in
    search rules

pub returns-then-steps-chain-clause-refused : goal.returns-then-steps-chain-clause-refused
returns-then-steps-chain-clause-refused c =
    let e : alike c.in_ok-one.one.end c.in_ok-two.two.end ≡ true = sym (same-alike _ _) ∙ sym c.if-not-same.ensures in
    search rules

pub returns : goal.returns
returns c =
    let g = c.args.self.now in
    let t = (held g.workings).table in
    let a = c.args.first.now in
    let b = c.args.second.now in
    let row = c.args.chain.now in
    let one = c.in_ok-one.one in
    let two = c.in_ok-two.two in
    let n = one.steps + two.steps in
    let same = c.table-table.ensures in
    let p = placed_way t _ c.args.budget a _ one _ (c.rules.ensures.value ∙ same) c.reduce.ensures.is c.in_ok-one.ensures in
    let q = placed_way t _ (c.args.budget - one.steps) b _ two _ (c.rules-2.ensures.value ∙ same) c.reduce-2.ensures.is c.in_ok-two.ensures in
    let long-one : length p.way.trail ≡ one.steps = ap (λ (r : Reduced). r.steps) p.same in
    let long-two : length q.way.trail ≡ two.steps = ap (λ (r : Reduced). r.steps) q.same in
    let part : length (take (n - 0) row) ≡ n = omega (arith, length-take (n - 0) row) in
    let Walked-one = reduce_walked (Argument 1) t c.args.budget a p.way (marks (placed (Argument 1)) p.answered) in
    let walked-two = reduce_walked (Argument 2) t (c.args.budget - one.steps) b q.way (marks (placed (Argument 2)) q.answered) in
    let written : c.write_between.new.row ≡ chain_between p.way q.way =
    c.write_between.ensures ∙ between_fills t a b p.way q.way Walked-one walked-two (take (n - 0) row) one.steps two.steps long-one long-two part _ same in
    let long : length c.write_between.new.row ≡ n = ap length written ∙ length-between t a b p.way q.way Walked-one walked-two (take (n - 0) row) one.steps two.steps long-one long-two part in
    let rest = post_of 0 (n - 0) row in
    let shown : take n (c.write_between.new.row ++ rest) ≡ chain_between p.way q.way = take_at c.write_between.new.row rest n long ∙ written in
    let m = equals t a b (length row) c.args.budget one two p q (sym (same-alike _ _) ∙ sym c.if-not-same.ensures) (omega arith) ∙ ap (λ zs. Ok (equal zs)) (sym shown) in
    let w = well_matched g c.if-not-self.false a b (length row) c.args.budget _ m in
    record { did = w.did; refused = w.refused; kept = drop_at c.write_between.new.row rest n long ∙ ap (λ k. drop k row) (omega arith); right = w.right }
