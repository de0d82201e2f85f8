use Rattle.std.proofs.Common.{◌≡◌, ◌+◌, true, length, sym, ap, ◌∙◌, subst, ap₂}
use mathlib.Core.Logic.{∥∥₁_map}
use Rattle.std.proofs.lemmas.Result.{err_from_is_err_and}
use Rattle.std.proofs.lemmas.Bool.{false≢true}
use Rattle.completion.specs.States.{State, held, blank, lines_of, chain_of}
use Rattle.completion.specs.Rounds.{settle}
use Rattle.completion.proofs.Deriving.{derivations-length}
use Rattle.register.specs.Calls.{Reply, Counted, Did, Settle}
use Rattle.register.specs.View.{view, sheet_if, contents_of}
use Rattle.register.proofs.Settling.{answered_so, refused_so, settle_did, settle_refused, settle_passed, settle_stopped, settle_guarantees, open_same}
use Rattle.register.proofs.register.Register.settle.Goals as goal

pub invariant_of-self : goal.invariant_of-self
invariant_of-self g c =
    let z = refused_so blank _ (held c.settle.new.self) c.in_err-steps.ensures.after _ c.in_err-steps.ensures.value in
    record { bare = (λ _. (ap (λ (s : State). length s.table) z.1, ap (λ (s : State). length s.added) z.1)); small = c.args.self.now.small; sound = ∣ (λ e. absurd (false≢true (sym c.if-self.false ∙ e))) ∣₁ }

pub returns-in_err-steps : goal.returns-in_err-steps
returns-in_err-steps g c =
    let r = c.args.self.now in
    let book = r.book in
    let above = g.O.Order.above c.args.order.now in
    let same = c.in-Ok.ensures.1 in
    let p = err_from_is_err_and c.from_residual.result c.from_residual.ensures.1 in
    let z = refused_so blank _ (held c.settle.new.self) c.in_err-steps.ensures.after _ c.in_err-steps.ensures.value in
    let none = ap (λ b. sheet_if b (held r.workings)) c.if-self.false in
    let stopped = ap (λ n. settle above n book c.args.budget) (sym same) ∙ z.0 in
    let refused = settle_refused above (view r) none c.args.capacity c.args.budget c.in-Ok.ensures.0 _ stopped in
    record {
      did = rw (p.1, p.2) (subst (Did (view r) (Settle above c.args.capacity c.args.budget) _) (open_same book r.settled c.if-self.false (held r.workings) (held c.settle.new.self)) refused);
      refused = rw (p.1, p.2) (settle_stopped above (view r) none c.args.capacity c.args.budget c.in-Ok.ensures.0 _ stopped);
    }

pub invariant_of-self-2 : goal.invariant_of-self-2
invariant_of-self-2 g c =
    let r = c.args.self.now in
    let above = g.O.Order.above c.args.order.now in
    let z = answered_so blank _ (held c.settle.new.self) c.in_ok-steps.ensures.after _ c.in_ok-steps.ensures.value in
    let sound = settle_guarantees above (g.met.O.Order.laws c.args.order.now) r.book r.small c.in-Ok.capacity.rules c.args.budget _ _ z in
    record { bare = (λ e. absurd (false≢true (sym e))); small = r.small; sound = ∥∥₁_map sound (λ k _. k) }

pub returns : goal.returns
returns g c =
    let r = c.args.self.now in
    let book = r.book in
    let above = g.O.Order.above c.args.order.now in
    let same = c.in-Ok.ensures.1 in
    let s = held c.settle.new.self in
    let z = answered_so blank _ s c.in_ok-steps.ensures.after _ c.in_ok-steps.ensures.value in
    let none = ap (λ b. sheet_if b (held r.workings)) c.if-self.false in
    let settled = ap (λ n. settle above n book c.args.budget) (sym same) ∙ z in
    let done = settle_did above (view r) none c.args.capacity c.args.budget c.in-Ok.ensures.0 c.in_ok-steps.steps s settled in
    let w = c.settle.new.self in
    let rules : length s.table ≡ length c.rules.result.now = sym (ap length (c.rules.ensures.value ∙ c.table.ensures)) in
    let lines : length book + length s.added ≡ length c.equations.result.now + length c.lines.result.now =
    ap₂ (λ m n. m + n) (sym (ap length c.equations.ensures.value)) (derivations-length (lines_of w) (chain_of w) ∙ sym (ap length c.lines.ensures)) in
    record {
      did = subst (λ (a : Reply). Did (view r) (Settle above c.args.capacity c.args.budget) a (contents_of book true s)) (ap₂ (λ m n. Counted m n c.in_ok-steps.steps) rules lines) done;
      refused = settle_passed above (view r) none c.args.capacity c.args.budget c.in-Ok.ensures.0 c.in_ok-steps.steps s settled;
    }
