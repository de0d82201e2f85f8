use Rattle.std.proofs.Common.{◌≤◌, length, sym, refl, ap, ◌∙◌, arith}
use Rattle.tables.specs.Citing.{citable}
use Rattle.questions.proofs.Partings.{told_of}
use Rattle.completion.specs.States.{held, answered, leaves}
use Rattle.completion.proofs.Rounding.{fork_counted, fork_cited, round-forked}
use Rattle.completion.proofs.workings.Workings.round.Goals as goal

pub add-requires : goal.add-requires
add-requires g c =
    let t = c.args.self.now.table in
    let book = c.args.task.now.book.now in
    let few : length book ≤ 32 = omega (arith, ap length c.equations-equations.ensures.value) in
    let told = told_of t c.args.budget book c.in-Err-Forked.fork few (ap citable (sym c.rules-rules.ensures.value) ∙ c.rules-rules.ensures.cited) (rw c.in-Err-Forked.field-0-is at c.in-Err-Forked.ensures) in
    rw c.in-Err-Forked.field-0-is
    (record { counted = fork_counted t c.args.budget book c.in-Err-Forked.fork told; cited = fork_cited t c.args.budget book c.in-Err-Forked.fork told })

pub returns-in-Err-Forked : goal.returns-in-Err-Forked
returns-in-Err-Forked g c =
    let s = held c.args.self.now in
    let book = c.args.task.now.book.now in
    let few : length book ≤ 32 = omega (arith, ap length c.equations-equations.ensures.value) in
    let told = told_of s.table c.args.budget book c.in-Err-Forked.fork few (ap citable (sym c.rules-rules.ensures.value) ∙ c.rules-rules.ensures.cited) (rw c.in-Err-Forked.field-0-is at c.in-Err-Forked.ensures) in
    let is = round-forked (g.O.Order.above c.args.task.now.order.now) c.args.task.now.capacity.rules (length book) c.args.budget book s c.in-Err-Forked.fork told refl in
    record { value = (rw c.in-Err-Forked.field-0-is at c.add.ensures.value) ∙ ap answered is; after = (rw c.in-Err-Forked.field-0-is at c.add.ensures.after) ∙ ap (leaves s) is }
