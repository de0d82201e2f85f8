use Rattle.std.proofs.Common.{◌≡◌, ◌+◌, drop}
use Rattle.questions.specs.Topics.{peaks}
use Rattle.questions.specs.Asking.{ask_all, outcome}
use Rattle.questions.proofs.asking.ask_pairs.Given as goal

-- what is still to be asked gives what was asked for
abbrev pub invariant-loop-i : goal.invariant-loop-i
invariant-loop-i l =
    outcome (ask_all l.rules l.budget (peaks 1 l.rules))
    ≡ outcome (ask_all l.rules l.left (peaks (l.i + 1) (drop l.i l.rules)))
