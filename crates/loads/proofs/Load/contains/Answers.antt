use Rattle.std.proofs.Common.{length, sym, arith, below_more}
use Rattle.std.proofs.lemmas.List.{length_push}
use Rattle.std.proofs.lemmas.Bool.Decides.{Decides-eqb, Decides-like}
use Rattle.std.proofs.lemmas.Slice.Zip.{zip_turn, zip_end}
use Rattle.loads.proofs.Algebra.{long}
use Rattle.loads.proofs.Bits.{held-bits}
use Rattle.loads.proofs.Deciding.{contains_eight, contains_decides, decides_false, decides_same}
use Rattle.loads.proofs.Gathering.{or_none, none_or}
use Rattle.loads.proofs.Load.contains.Goals as goal

pub returns-then-self-other : goal.returns-then-self-other
returns-then-self-other c =
    let x = c.args.self.now in
    let y = c.args.other.now in
    sym (decides_false _ (contains_decides x y) (λ h. c.if-self-other.true (rw (x.present, y.present) (held-bits x y h))))

pub loop-mine-preserved : goal.loop-mine-preserved
loop-mine-preserved c =
    let inv = c.loop-mine.invariant in
    let d = c.saturating_sub-lack.result in
    let n = length c.loop-mine.yielded in
    let t = zip_turn c.args.self.now.counts c.args.other.now.counts c.loop-mine.yielded c.into_iter-mine-iterator.result c.loop-mine.mine-iterator c.next.new.self c.next.result (cc) (cc) c.loop-mine.yielded_by _ c.in-Some.is c.next.ensures.steps in
    let mine = t.2 0 in
    let theirs = t.3 0 in
    rw length_push (
      λ z. let p = or_none c.loop-mine.lack d z in below_more _ _ (inv.0 p.0) (omega (arith, c.saturating_sub-lack.ensures)),
      λ h. none_or c.loop-mine.lack d (inv.1 (λ k m. h k (omega arith))) (omega (arith, c.saturating_sub-lack.ensures, h n (omega arith))),
    )

pub returns : goal.returns
returns c =
    let inv = c.loop-mine.invariant in
    let x = c.args.self.now in
    let y = c.args.other.now in
    let all = zip_end x.counts y.counts c.loop-mine.yielded c.into_iter-mine-iterator.result c.loop-mine.mine-iterator c.next.new.self c.next.result (cc) (cc) c.loop-mine.yielded_by c.in-None.is c.next.ensures.steps in
    let e = long x in
    let f = long y in
    decides_same _ _ (Decides-like _ (λ z k l. inv.0 z k (omega arith)) (λ h. inv.1 (λ k l. h k (omega arith))) (Decides-eqb c.loop-mine.lack 0)) (contains_eight x y)
