use Rattle.std.proofs.Common.{◌≡◌, ◌-◌, vec_len}
use Rattle.completion.specs.States.{blank, held}
use Rattle.completion.specs.Rounds.{rounds}
use Rattle.completion.proofs.workings.Workings.settle.Given as goal

-- the rounds that are still to come give what was asked for
abbrev pub invariant-loop-rest : goal.invariant-loop-rest
invariant-loop-rest g l =
    rounds (g.O.Order.above l.task.order.now) l.task.capacity.rules l.task.book.now 512 l.budget blank
    ≡ rounds (g.O.Order.above l.task.order.now) l.task.capacity.rules l.task.book.now (512 - vec_len l.self.lines) l.left (held l.self)

abbrev pub decreases-loop-rest : goal.decreases-loop-rest
decreases-loop-rest g l = 512 - vec_len l.self.lines
