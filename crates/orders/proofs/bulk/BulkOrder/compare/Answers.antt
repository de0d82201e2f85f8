use Rattle.std.proofs.Common.{◌≡◌, reverse, nat_cmp, ◌∙◌, rules}
use Rattle.std.specs.Ordering.{ordering_then}
use Rattle.std.specs.Cmp.Lexicographic.{slice_cmp}
use Rattle.loads.specs.Totals.{pieces}
use Rattle.orders.proofs.Answering.{answer-bulk}
use Rattle.orders.proofs.bulk.BulkOrder.compare.Goals as goal

pub returns : goal.returns
returns c =
    let x = c.args.a.now in
    let y = c.args.b.now in
    let e : c.then_with.result ≡ ordering_then (nat_cmp (pieces x) (pieces y)) (slice_cmp nat_cmp (reverse y.counts) (reverse x.counts)) = search rules in
    e ∙ answer-bulk x y
