use Rattle.std.proofs.Common.{sym, ◌∙◌}
use mathlib.Core.Logic.{∥∥₁_map}
use Rattle.std.proofs.lemmas.Bool.{false≢true}
use Rattle.register.proofs.Entering.{small_after}
use Rattle.register.proofs.register.Register.enter.Goals as goal

pub invariant_of-self : goal.invariant_of-self
invariant_of-self c =
    let g = c.args.self.now in
    let small = small_after g.book c.args.equation c.if-is_empty.ensures.small c.if-is_empty-2.ensures.small c.enter.new.self c.enter.ensures.after in
    record { bare = g.bare; small = ∥∥₁_map g.small small; sound = ∣ (λ e. absurd (false≢true (sym c.if-self.false ∙ e))) ∣₁ }
