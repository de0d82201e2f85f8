use Rattle.std.proofs.Common.{◌≡◌, ◌+◌}
use Rattle.questions.specs.Topics.{peaks_with}
use Rattle.questions.specs.Asking.{ask_all, outcome}
use Rattle.questions.proofs.Turns.{row}
use Rattle.questions.proofs.asking.ask_row.Given as goal

-- what is still to be asked gives what was asked for
abbrev pub invariant-loop-j : goal.invariant-loop-j
invariant-loop-j l = outcome (ask_all l.rules l.budget (peaks_with l.i l.rule (l.i + 1) l.after)) ≡ row l.rules l.i l.rule l.after l.budget l.j l.j l.left
