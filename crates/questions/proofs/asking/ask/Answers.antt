use Rattle.std.proofs.Common.{◌≡◌, true, false, sym, ◌∙◌, rules}
use Rattle.loads.specs.Tests.{alike}
use Rattle.loads.proofs.Deciding.{same-alike}
use Rattle.questions.proofs.asking.ask.Goals as goal

pub returns-then-eq : goal.returns-then-eq
returns-then-eq c =
    let e : alike c.in_ok-first.first.end c.in_ok-second.second.end ≡ true = sym (same-alike _ _) ∙ sym c.if-eq.ensures in
    search rules

pub returns : goal.returns
returns c =
    let e : alike c.in_ok-first.first.end c.in_ok-second.second.end ≡ false = sym (same-alike _ _) ∙ sym c.if-eq.ensures in
    search rules
