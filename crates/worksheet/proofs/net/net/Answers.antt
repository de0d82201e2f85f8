use Rattle.std.proofs.Common.{ℕ, ℤ, pos, ◌-ℤ◌, sym, ◌∙◌, arith}
use Rattle.std.proofs.lemmas.List.FromFn.{get_or-map-range_with_len}
use Rattle.std.proofs.lemmas.List.{ext_get_or}
use Rattle.loads.specs.Loads.{at}
use Rattle.worksheet.specs.Replay.{net}
use Rattle.worksheet.proofs.net.net.Goals as goal

pub returns : goal.returns
returns c =
    let a = c.args.start.now in
    let b = c.args.end.now in
    let count : ℕ → ℤ = λ k. pos (at b k) -ℤ pos (at a k) in
    ext_get_or (pos 0) c.loop-i.count-items (net a b) c.loop-i.invariant.0
    (λ k h. c.loop-i.invariant.1 k (omega (arith, c.loop-i.invariant.0)) ∙ sym (get_or-map-range_with_len count 0 8 k k (pos 0) (omega (arith, c.loop-i.invariant.0)) (omega arith)))
