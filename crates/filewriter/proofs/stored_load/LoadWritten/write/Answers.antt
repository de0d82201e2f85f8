use Rattle.std.proofs.Common.{◌+◌, ◌<◌, ◌∷◌, ◌++◌, length, get_or, take, drop, sym, refl, ap, ◌∙◌, arith, length-set}
use Rattle.std.proofs.lemmas.List.{take_more_set}
use Rattle.loads.proofs.Algebra.{long}
use Rattle.swapfile.specs.StoredLoads.{counts_bytes}
use Rattle.filewriter.proofs.Puts.{counts-some, counts-zero, counts-none, written_more, written_end}
use Rattle.filewriter.proofs.stored_load.LoadWritten.write.Goals as goal
use Rattle.filewriter.proofs.stored_load.LoadWritten.write.Goals.{then-count-gt0, else-count-gt0}

pub loop-count-init : goal.loop-count-init
loop-count-init c =
    let out = c.args.out.now in
    let is = c.counts-count-items.ensures in (
      omega (arith, length-set out 0 c.presence.result, ap (λ cs. length (counts_bytes cs)) is),
      ap (λ xs. xs ++ counts_bytes c.counts-count-items.result.now) (take_more_set out 0 c.presence.result (omega arith)) ∙ (λ i. c.presence.ensures i ∷ counts_bytes (is i)),
    )

pub slice_bounds-write-end : goal.slice_bounds-write-end
slice_bounds-write-end c =
    let l = c.loop-count in
    let cs = c.counts-count-items.result.now in
    let within : l.count-index < length cs = omega (arith, long c.args.self.now, ap length c.counts-count-items.ensures) in
    let one = ap length (counts-some cs l.count-index (get_or cs l.count-index 0) within refl c.if-count-gt0.true) in
    omega (arith, one, l.invariant.0)

pub loop-count-preserved : goal.loop-count-preserved
loop-count-preserved c =
    let l = c.loop-count in
    let cs = c.counts-count-items.result.now in
    let n = get_or cs l.count-index 0 in
    let here = c.if-count-gt0 in
    let within : l.count-index < length cs = omega (arith, long c.args.self.now, ap length c.counts-count-items.ensures) in
    elim here.branch [
      | then-count-gt0 w ↦
          let one = counts-some cs l.count-index n within refl w.if-count-gt0.true in (
            omega (arith, ap length one, l.invariant.0, w.at-is, here.auto.out),
            ap (λ out. take here.at out ++ counts_bytes (drop (l.count-index + 1) cs)) w.out-is ∙ written_more l.at _ here.at l.out w.write.new.out _ _ _ _ w.at-is (omega (arith, l.invariant.0)) w.write.ensures one l.invariant.1,
          )
      | else-count-gt0 w ↦
          let none = counts-zero cs l.count-index n within refl (omega (arith, w.if-count-gt0.false)) in (
            omega (arith, ap length none, l.invariant.0, w.at-is, here.auto.out),
            (λ i. take (w.at-is i) (w.out-is i) ++ sym none i) ∙ l.invariant.1,
          )
    ]

pub returns : goal.returns
returns c =
    let l = c.loop-count in
    let cs = c.counts-count-items.result.now in
    let none = counts-none cs l.count-index (omega (arith, long c.args.self.now, ap length c.counts-count-items.ensures)) in
    written_end l.at l.out _ _ (omega (arith, ap length none, l.invariant.0)) none l.invariant.1
