use Rattle.std.proofs.Common.{◌≡◌, drop, pos}
use Rattle.worksheet.specs.Claims.{claimed, named}
use Rattle.adoption.specs.declared.fault.TableFault.TheVariants.{NotClaimed}
use Rattle.adoption.specs.Tables.{each, stated, rules_claimed}
use Rattle.adoption.proofs.rules.check_claims.Given as goal

-- the rules that are left give what was asked for
abbrev pub invariant-loop-i : goal.invariant-loop-i
invariant-loop-i l =
    let ls = claimed l.lines in
    rules_claimed ls l.rules ≡ each (λ _ r. stated r (named ls (pos r.line))) NotClaimed l.i (drop l.i l.rules)
