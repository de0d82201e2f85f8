use Rattle.std.proofs.Common.{sym, ap₂, ◌∙◌, arith}
use Rattle.worksheet.specs.Claims.{nth}
use Rattle.register.specs.View.{view}
use Rattle.register.proofs.Viewing.{claim_numbered}
use Rattle.register.proofs.register.Register.claim.Goals as goal

pub returns : goal.returns
returns c =
    c.claim_at.ensures ∙ ap₂ nth c.lines.ensures (omega (arith, c.in_ok-checked_sub.ensures.1)) ∙ sym (claim_numbered (view c.args.self.now) c.args.number (omega (arith, c.in_ok-checked_sub.ensures.0)))
