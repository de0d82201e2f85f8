use Rattle.std.proofs.Common.{◌≡◌, ◌-◌, length, Ok, vec_len, sym, refl, ap, ◌∙◌, ap₂, arith}
use Rattle.completion.specs.States.{State, blank, held}
use Rattle.std.specs.declared.ops.ControlFlow.TheVariants.{Break, Continue}
use Rattle.completion.specs.Rounds.{round, rounds}
use Rattle.completion.proofs.Leaving.{refused_value, refused_leaves, answered_value, answered-leaves, was_answered, was_refused}
use Rattle.completion.proofs.Rooms.{added-length}
use Rattle.completion.proofs.Rounding.{round_again, rounds_again, settle_settled, settle_refused}
use Rattle.completion.proofs.workings.Workings.settle.Goals as goal

pub loop-rest-init : goal.loop-rest-init
loop-rest-init g c =
    let w = c.clear.new.self in
    let none : vec_len w.lines ≡ 0 = sym (added-length w) ∙ ap (λ (s : State). length s.added) c.clear.ensures in
    let all : 512 ≡ 512 - vec_len w.lines = omega arith in
    ap₂ (λ n s. rounds (g.O.Order.above c.args.task.now.order.now) c.args.task.now.capacity.rules c.args.task.now.book.now n c.args.budget s) all (sym c.clear.ensures)

pub loop-rest-smaller : goal.loop-rest-smaller
loop-rest-smaller g c =
    let above = g.O.Order.above c.args.task.now.order.now in
    let w = c.loop-rest.self in
    let v = c.round.new.self in
    let was = was_answered (held w) (round above c.args.task.now.capacity.rules c.args.task.now.book.now c.loop-rest.left (held w)) (Continue c.in-Ok-Continue.rest) (held v) (rw c.in-Ok-Continue.field-0-is at c.in-Ok-Continue.ensures.value) c.in-Ok-Continue.ensures.after in
    let more = round_again above c.args.task.now.capacity.rules c.args.task.now.book.now c.loop-rest.left (held w) c.in-Ok-Continue.rest (held v) was in
    omega (arith, added-length w, added-length v, more.0, more.1)

pub loop-rest-preserved : goal.loop-rest-preserved
loop-rest-preserved g c =
    let above = g.O.Order.above c.args.task.now.order.now in
    let w = c.loop-rest.self in
    let v = c.round.new.self in
    let was = was_answered (held w) (round above c.args.task.now.capacity.rules c.args.task.now.book.now c.loop-rest.left (held w)) (Continue c.in-Ok-Continue.rest) (held v) (rw c.in-Ok-Continue.field-0-is at c.in-Ok-Continue.ensures.value) c.in-Ok-Continue.ensures.after in
    let more = round_again above c.args.task.now.capacity.rules c.args.task.now.book.now c.loop-rest.left (held w) c.in-Ok-Continue.rest (held v) was in
    c.loop-rest.invariant
    ∙ rounds_again above c.args.task.now.capacity.rules c.args.task.now.book.now c.loop-rest.left (held w) (512 - vec_len w.lines) (512 - vec_len v.lines) c.in-Ok-Continue.rest (held v)
    (omega (arith, added-length w, added-length v, more.0, more.1)) was

pub returns-in-Ok-Break : goal.returns-in-Ok-Break
returns-in-Ok-Break g c =
    let above = g.O.Order.above c.args.task.now.order.now in
    let w = c.loop-rest.self in
    let v = c.round.new.self in
    let was = was_answered (held w) (round above c.args.task.now.capacity.rules c.args.task.now.book.now c.loop-rest.left (held w)) (Break c.in-Ok-Break.rest) (held v) (rw c.in-Ok-Break.field-0-is at c.in-Ok-Break.ensures.value) c.in-Ok-Break.ensures.after in
    let all = settle_settled above c.args.task.now.capacity.rules c.args.task.now.book.now c.args.budget (512 - vec_len w.lines) c.loop-rest.left (held w) c.loop-rest.invariant c.in-Ok-Break.rest (held v) was in
    record { value = ap Ok c.saturating_sub.ensures ∙ answered_value blank _ _ _ all; after = answered-leaves blank _ _ _ (held v) all refl }

pub returns-in-Err : goal.returns-in-Err
returns-in-Err g c =
    let above = g.O.Order.above c.args.task.now.order.now in
    let w = c.loop-rest.self in
    let was = was_refused (held w) (round above c.args.task.now.capacity.rules c.args.task.now.book.now c.loop-rest.left (held w)) c.in-Err.fault c.in-Err.ensures.value in
    let all = settle_refused above c.args.task.now.capacity.rules c.args.task.now.book.now c.args.budget (512 - vec_len w.lines) c.loop-rest.left (held w) c.loop-rest.invariant c.in-Err.fault was in
    record { value = refused_value blank _ c.in-Err.fault all; after = refused_leaves blank _ c.in-Err.fault _ all c.clear-in-Err.ensures }
