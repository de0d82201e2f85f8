use Rattle.std.proofs.Common.{◌≡◌, true, false, ◌&&◌, sym, ap, ◌∙◌, arith}
use Rattle.loads.specs.Tests.{alike}
use Rattle.loads.proofs.Deciding.{same-alike}
use Rattle.worksheet.specs.Claims.{nth, claimed}
use Rattle.adoption.proofs.Loops.{stated_at}
use Rattle.adoption.proofs.rules.is_claimed.Goals as goal

pub returns-then-eq : goal.returns-then-eq
returns-then-eq c =
    let r = c.args.rule.now in
    let e = c.in-Some-claim_at.claim in
    let left : alike r.left e.left ≡ true = sym (same-alike _ _) ∙ sym c.if-eq.ensures in
    let right : c.eq-then-eq.result ≡ alike r.right e.right = c.eq-then-eq.ensures ∙ same-alike _ _ in
    let stands = stated_at r (claimed c.args.lines.now) c.in-Some.place e (omega (arith, c.from.ensures, c.in-Some.ensures.0, c.in-Some.ensures.1)) (sym (c.in-Some-claim_at.ensures ∙ ap (nth (claimed c.args.lines.now)) (omega arith))) in
    right ∙ sym (stands ∙ ap (λ b. b && alike r.right e.right) left)

pub returns-else-eq : goal.returns-else-eq
returns-else-eq c =
    let r = c.args.rule.now in
    let e = c.in-Some-claim_at.claim in
    let left : alike r.left e.left ≡ false = sym (same-alike _ _) ∙ sym c.if-eq.ensures in
    let stands = stated_at r (claimed c.args.lines.now) c.in-Some.place e (omega (arith, c.from.ensures, c.in-Some.ensures.0, c.in-Some.ensures.1)) (sym (c.in-Some-claim_at.ensures ∙ ap (nth (claimed c.args.lines.now)) (omega arith))) in
    c.if-eq.false ∙ sym (stands ∙ ap (λ b. b && alike r.right e.right) left)
