use Rattle.std.proofs.Common.{◌≡◌, ◌+◌, drop}
use Rattle.questions.specs.Topics.{entries}
use Rattle.questions.specs.Asking.{ask_all, outcome}
use Rattle.questions.proofs.asking.ask_equations.Given as goal

-- what is still to be asked gives what was asked for
abbrev pub invariant-loop-i : goal.invariant-loop-i
invariant-loop-i l =
    outcome (ask_all l.rules l.budget (entries 1 l.book))
    ≡ outcome (ask_all l.rules l.left (entries (l.i + 1) (drop l.i l.book)))
