use Rattle.std.proofs.Common.{◌≡◌, ◌+◌, ◌*◌, ◌%◌, set, sym, ap, ◌∙◌, arith}
use Rattle.loads.specs.Loads.{of_counts}
use Rattle.swapfile.specs.Bytes.{number_at}
use Rattle.swapfile.specs.StoredLoads.{load_at, if_set}
use Rattle.records.proofs.Loads.{counts_more, counts_end}
use Rattle.records.proofs.stored_load.StoredLoad.read.Goals as goal
use Rattle.records.proofs.stored_load.StoredLoad.read.Goals.{then-left-eq1, else-left-eq1}

pub loop-count-preserved : goal.loop-count-preserved
loop-count-preserved c =
    let b = c.args.self.now.bytes.now in
    let l = c.loop-count in
    let here = c.if-left-eq1 in
    elim here.branch [
      | then-left-eq1 w ↦
          let odd : l.left % 2 ≡ 1 = w.if-left-eq1.true in
          let is = w.number_at.ensures ∙ ap (λ r. if_set r (number_at b l.place)) (sym odd) in
          let goes : here.place ≡ l.place + 2 * (l.left % 2) = omega (arith, w.place-is) in
          counts_more b l.count-items here.count-items l.count-index l.left l.place _ w.number_at.result here.place l.invariant c.loop-count-test.true is goes w.count-items-is
      | else-left-eq1 w ↦
          let even : l.left % 2 ≡ 0 = omega (arith, w.if-left-eq1.false) in
          let none = l.invariant.unread l.count-index (omega arith) c.loop-count-test.true in
          let goes : here.place ≡ l.place + 2 * (l.left % 2) = omega (arith, w.place-is) in
          counts_more b l.count-items here.count-items l.count-index l.left l.place _ 0 here.place l.invariant c.loop-count-test.true (ap (λ r. if_set r (number_at b l.place)) (sym even)) goes (w.count-items-is ∙ ap (set l.count-items l.count-index) none)
    ]

pub returns : goal.returns
unfolding load_at
returns c =
    let l = c.loop-count in
    c.from.ensures ∙ ap of_counts (counts_end c.args.self.now.bytes.now l.count-items l.count-index l.left l.place _ l.invariant (omega arith))
