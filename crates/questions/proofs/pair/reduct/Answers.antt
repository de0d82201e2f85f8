use Rattle.std.proofs.Common.{◌≡◌, true, Ok, Err, Result, sym, refl, ap, ◌∙◌, rules}
use Rattle.loads.specs.declared.Load.{Load}
use Rattle.loads.specs.declared.exchange.ExchangeFault.{ExchangeFault}
use Rattle.loads.specs.Answers.{marked}
use Rattle.loads.specs.Loads.{shared}
use Rattle.loads.specs.Tests.{contains}
use Rattle.loads.specs.Exchange.{exchanged}
use Rattle.loads.proofs.Algebra.{counts}
use Rattle.loads.proofs.Deciding.{contains_decides}
use Rattle.worksheet.specs.declared.rule.Rule.{Rule}
use Rattle.rewriting.specs.declared.reduce.StepFault.TheVariants.{Overflow}
use Rattle.rewriting.specs.Reducing.{sized}
use Rattle.rewriting.specs.Swaps.{equation_of}
use Rattle.rewriting.specs.Settled.{reduct}
use Rattle.rewriting.proofs.Reducing.{exchange_made, exchange_refused}
use Rattle.questions.proofs.Answering.{told_as}
use Rattle.questions.proofs.pair.reduct.Goals as goal

-- a load has what it shares with another
has-shared : (x y : Load) → contains y (shared x y) ≡ true
has-shared x y = (contains_decides y (shared x y)).1 (λ k. omega counts)

-- so only a count can be in the way
exchanged_is : (r s : Rule) → marked (λ _. Overflow) (exchanged s.left (shared r.left s.left) r.right) ≡ sized (reduct (equation_of r) (equation_of s))
exchanged_is r s = go (exchanged s.left (shared r.left s.left) r.right) refl
  where
    go : (x : Result Load ExchangeFault) → exchanged s.left (shared r.left s.left) r.right ≡ x → marked (λ _. Overflow) x ≡ sized (reduct (equation_of r) (equation_of s))
    go (Ok y) e = sym (exchange_made s.left (shared r.left s.left) r.right (has-shared r.left s.left) y e)
    go (Err f) e = sym (exchange_refused s.left (shared r.left s.left) r.right (has-shared r.left s.left) f e)

pub returns : goal.returns
returns c =
    let r = c.args.rule.now in
    let s = c.args.other.now in
    told_as _ Overflow _ c.map_err.result (λ e z h. search rules) c.map_err.ensures.cases
    ∙ ap (marked (λ _. Overflow)) (c.exchange.ensures ∙ ap (λ x. exchanged s.left x r.right) c.shared-shared.ensures)
    ∙ exchanged_is r s
