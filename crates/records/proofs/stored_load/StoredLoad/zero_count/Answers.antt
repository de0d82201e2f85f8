use Rattle.std.proofs.Common.{◌≡◌, ◌+◌, ◌-◌, ◌/◌, ap, ◌∙◌, arith}
use Rattle.swapfile.specs.StoredLoads.{zero_from}
use Rattle.records.proofs.Loads.{zero_here, zero_more, zero_end}
use Rattle.records.proofs.stored_load.StoredLoad.zero_count.Goals as goal

pub returns-then-number_at-eq0 : goal.returns-then-number_at-eq0
returns-then-number_at-eq0 c =
    zero_here c.args.self.now.bytes.now _ c.loop-place.place _ _ c.loop-place.invariant.0 c.loop-place.invariant.1 c.loop-place-test.true (omega arith)

pub loop-place-preserved : goal.loop-place-preserved
loop-place-preserved c =
    let s = c.args.self.now in
    let at = c.loop-place.place in
    let one : (s.end - (at + 2)) / 2 ≡ (s.end - at) / 2 - 1 = omega arith in
    (omega arith, ap (λ n. zero_from s.bytes.now n (at + 2)) one ∙ zero_more s.bytes.now _ at _ _ c.loop-place.invariant.0 c.loop-place.invariant.1 c.loop-place-test.true (λ z. c.if-number_at-eq0.false (omega arith)))

pub returns : goal.returns
returns c = zero_end c.args.self.now.bytes.now _ c.loop-place.place _ _ c.loop-place.invariant.0 c.loop-place.invariant.1 c.loop-place-test.false

pub returns-else-number_at-eq0 : goal.returns-else-number_at-eq0
returns-else-number_at-eq0 c =
    let s = c.args.self.now in
    let at = c.loop-place.place in
    let n = (s.end - at) / 2 in
    let more = zero_more s.bytes.now n at _ _ c.loop-place.invariant.0 c.loop-place.invariant.1 c.loop-place-test.true (λ z. c.if-number_at-eq0.false (omega arith)) in
    zero_end s.bytes.now (n - 1) (at + 2) s.end _ (omega arith) more (omega arith)
