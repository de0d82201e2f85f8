use Rattle.std.proofs.Common.{◌≡◌, true, false, sym, ◌∙◌, rules}
use Rattle.loads.specs.Tests.{alike}
use Rattle.loads.proofs.Deciding.{same-alike}
use Rattle.adoption.proofs.Loops.{line_elsewhere}
use Rattle.adoption.proofs.lines.check_line.Goals as goal

pub returns-then-eq : goal.returns-then-eq
returns-then-eq c =
    let e : alike c.in_ok-end.end c.args.claim.now.right ≡ true = sym (same-alike _ _) ∙ sym c.if-eq.ensures in
    search rules

pub returns-else-eq : goal.returns-else-eq
returns-else-eq c =
    let e : alike c.in_ok-end.end c.args.claim.now.right ≡ false = sym (same-alike _ _) ∙ sym c.if-eq.ensures in
    let known = c.args.known.now in
    sym (line_elsewhere known.book.now known.added.now (record { claim = c.args.claim.now; chain = c.args.chain.now }) c.in_ok-end.end (search rules) e)
