use Rattle.std.proofs.Common.{◌+◌, ◌-◌, ◌^◌, ◌<◌, ◌≡◌, length, sym, ap, ◌∙◌, arith, rules}
use Rattle.std.proofs.lemmas.Result.{err_from_is_err_and}
use Rattle.adoption.proofs.Loops.{lengths_next, replays_stop, replays_next, replays_end, replays_from}
use Rattle.adoption.proofs.lines.replay_lines.Goals as goal

pub overflow_add-end : goal.overflow_add-end
overflow_add-end c =
    let room : length c.args.chain.now < 2 ^ 64 = search rules in
    record { fits = omega (arith, c.loop-i.invariant.0, lengths_next c.args.lines.now c.loop-i.i c.index-lines-i.result (omega arith) c.index-lines-i.is) }

pub returns-in_err-check_line : goal.returns-in_err-check_line
returns-in_err-check_line c =
    let p = err_from_is_err_and c.from_residual.result c.from_residual.ensures.1 in
    let l = c.index-lines-i.result in
    rw (p.1, p.2) (sym (c.loop-i.invariant.1
    ∙ replays_stop c.args.book.now c.args.lines.now c.args.chain.now c.loop-i.i c.loop-i.start l (omega arith) c.index-lines-i.is (c.loop-i.start + c.from.result - c.loop-i.start) (omega (arith, c.from.ensures)) _ c.in_err-check_line.ensures))

pub loop-i-preserved : goal.loop-i-preserved
loop-i-preserved c =
    let l = c.index-lines-i.result in
    let next = lengths_next c.args.lines.now c.loop-i.i l (omega arith) c.index-lines-i.is in
    let behind : c.loop-i.start + l.length ≡ c.loop-i.start + c.from.result = omega (arith, c.from.ensures) in (
      omega (arith, c.loop-i.invariant.0, next, c.from.ensures),
      c.loop-i.invariant.1
          ∙ replays_next c.args.book.now c.args.lines.now c.args.chain.now c.loop-i.i c.loop-i.start l (omega arith) c.index-lines-i.is (c.loop-i.start + c.from.result - c.loop-i.start) (omega (arith, c.from.ensures)) _ c.in_ok-check_line.ensures
          ∙ ap (replays_from c.args.book.now c.args.lines.now c.args.chain.now (c.loop-i.i + 1)) behind,
    )

pub returns : goal.returns
returns c = sym (c.loop-i.invariant.1 ∙ replays_end c.args.book.now c.args.lines.now c.args.chain.now c.loop-i.i c.loop-i.start (omega arith))
