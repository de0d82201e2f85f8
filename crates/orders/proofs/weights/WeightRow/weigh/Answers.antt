use Rattle.std.proofs.Common.{◌≡◌, ◌*◌, ◌≤◌, length, get_or, ap, ap₂, ◌∙◌, mul-le-mul, arith, rules, tests}
use Rattle.std.proofs.lemmas.List.{length_push, set-get_or}
use Rattle.std.proofs.lemmas.Slice.Zip.{zip_turn, zip_end}
use Rattle.loads.specs.Loads.{at}
use Rattle.loads.specs.Totals.{sum_below}
use Rattle.loads.proofs.Algebra.{long}
use Rattle.loads.proofs.Summing.{sum_more}
use Rattle.orders.specs.Relations.{weighed}
use Rattle.orders.proofs.weights.WeightRow.weigh.Goals as goal

pub loop-weight-preserved : goal.loop-weight-preserved
loop-weight-preserved c =
    let ws = c.args.self.now.0 in
    let x = c.args.load.now in
    let n = length c.loop-weight.yielded in
    let t = zip_turn ws x.counts c.loop-weight.yielded c.into_iter-weight-iterator.result c.loop-weight.weight-iterator c.next.new.self c.next.result (cc) (search (rules, tests, set-get_or x.counts 0 0)) c.loop-weight.yielded_by _ c.in-Some.is c.next.ensures.steps in
    let product = ap₂ (λ v w. v * w) (c.from.ensures ∙ t.2 0) (c.from-in-loop-weight.ensures ∙ t.3 0) in
    let more = sum_more n (λ k. get_or ws k 0 * at x k) in
    let weight_fits : c.from.result ≤ 65535 = omega arith in
    let count_fits : c.from-in-loop-weight.result ≤ 65535 = omega arith in
    let most : c.from.result * c.from-in-loop-weight.result ≤ 65535 * 65535 = mul-le-mul weight_fits count_fits in
    rw length_push (omega arith, omega arith)

pub returns : goal.returns
unfolding weighed
returns c =
    let ws = c.args.self.now.0 in
    let x = c.args.load.now in
    let all = zip_end ws x.counts c.loop-weight.yielded c.into_iter-weight-iterator.result c.loop-weight.weight-iterator c.next.new.self c.next.result (cc) (search (rules, tests, set-get_or x.counts 0 0)) c.loop-weight.yielded_by c.in-None.is c.next.ensures.steps in
    let long = long x in
    let eight : length c.loop-weight.yielded ≡ 8 = omega arith in
    c.loop-weight.invariant.0 ∙ ap (λ n. sum_below n (λ k. get_or ws k 0 * at x k)) eight
