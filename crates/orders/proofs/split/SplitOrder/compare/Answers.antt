use Rattle.std.proofs.Common.{◌≡◌, true, false, ◌∙◌, rules}
use Rattle.std.specs.Ordering.{ordering_then}
use Rattle.orders.specs.Comparing.{answer}
use Rattle.orders.specs.Relations.{part}
use Rattle.orders.proofs.Answering.{answer-split}
use Rattle.orders.proofs.split.SplitOrder.compare.Goals as goal

pub returns : goal.returns
returns g c =
    let s = c.args.self.now in
    let x = c.args.a.now in
    let y = c.args.b.now in
    let first = g.First.Order.above s.first in
    let second = g.Second.Order.above s.second in
    let e : c.then_with.result ≡ ordering_then (answer first (part s.marks.0 true x) (part s.marks.0 true y)) (answer second (part s.marks.0 false x) (part s.marks.0 false y)) = search rules in
    e ∙ answer-split s.marks.0 first second (g.met.First.Order.laws s.first) x y
