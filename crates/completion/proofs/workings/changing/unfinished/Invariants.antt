use Rattle.std.proofs.Common.{◌≡◌, drop}
use Rattle.completion.specs.Changing.{unfinished}
use Rattle.completion.proofs.workings.changing.unfinished.Given as goal

-- what is still to be looked at gives what was asked for
abbrev pub invariant-loop-place : goal.invariant-loop-place
invariant-loop-place l = unfinished l.rules 0 l.rules ≡ unfinished l.rules l.place (drop l.place l.rules)
