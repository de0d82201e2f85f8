use Rattle.std.proofs.Common.{◌≡◌, ◌-◌, ◌∙◌, length, drop, sym, ap, arith}
use Rattle.std.proofs.lemmas.List.{drop_all, length_push, length-reverse}
use Rattle.std.proofs.lemmas.Iterator.Adapters.{YieldsList-from_rev_slice}
use Rattle.std.proofs.lemmas.Iterator.Consumers.{YieldsList-turn, YieldsList-end}
use Rattle.loads.specs.Bits.{bits}
use Rattle.loads.proofs.Bits.{bit_le, bits-few, bit_of, bits_read}
use Rattle.loads.proofs.presence.presence_of.Goals as goal

pub loop-count-init : goal.loop-count-init
loop-count-init c = (omega arith, ap bits (sym (drop_all (length c.args.counts.now - 0) c.args.counts.now (omega arith))))

pub overflow_mul-bits : goal.overflow_mul-bits
overflow_mul-bits c =
    let t = YieldsList-turn (YieldsList-from_rev_slice c.args.counts.now cc) c.loop-count.yielded _ c.loop-count.yielded_by _ _ c.in-Some.count c.in-Some.is c.next.ensures.steps in
    record { fits = omega (arith, length-reverse c.args.counts.now, bits-few c.args.counts.now c.told-counts (length c.args.counts.now - length c.loop-count.yielded) (omega (arith, length-reverse c.args.counts.now))) }

pub overflow_add-bits : goal.overflow_add-bits
overflow_add-bits c =
    let x = c.in-Some.count.now in
    let t = YieldsList-turn (YieldsList-from_rev_slice c.args.counts.now cc) c.loop-count.yielded _ c.loop-count.yielded_by _ _ c.in-Some.count c.in-Some.is c.next.ensures.steps in
    record { fits = omega (arith, bit_of x, bit_le x, length-reverse c.args.counts.now, bits-few c.args.counts.now c.told-counts (length c.args.counts.now - length c.loop-count.yielded) (omega (arith, length-reverse c.args.counts.now))) }

pub loop-count-preserved : goal.loop-count-preserved
loop-count-preserved c =
    let cs = c.args.counts.now in
    let n = length c.loop-count.yielded in
    let t = YieldsList-turn (YieldsList-from_rev_slice cs cc) c.loop-count.yielded _ c.loop-count.yielded_by _ _ c.in-Some.count c.in-Some.is c.next.ensures.steps in
    let more = bits_read cs n c.in-Some.count.now t.0 t.1 in
    let long = length-reverse cs in
    rw length_push (omega arith, omega (arith, bit_of c.in-Some.count.now))

pub returns : goal.returns
returns c =
    let cs = c.args.counts.now in
    let all = YieldsList-end (YieldsList-from_rev_slice cs cc) c.loop-count.yielded _ c.loop-count.yielded_by _ _ c.in-None.is c.next.ensures.steps in
    let long = length-reverse cs in
    let none : length cs - length c.loop-count.yielded ≡ 0 = omega arith in
    c.loop-count.invariant.1 ∙ ap (λ n. bits (drop n cs)) none
