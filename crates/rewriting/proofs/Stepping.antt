-- The loop of a reduction: what is left gives what was asked for, with the steps made so far.
use Rattle.std.proofs.Common.{◌≡◌, ℕ, zero, suc, ◌+◌, ◌-◌, ◌≤◌, List, length, Some, None, Ok, Err, Result, sym, refl, ap, ◌∙◌, arith}
use Rattle.loads.specs.declared.Load.{Load}
use Rattle.loads.specs.declared.exchange.ExchangeFault.{ExchangeFault}
use Rattle.loads.specs.Answers.{◌>>=◌}
use Rattle.loads.specs.Exchange.{exchanged}
use Rattle.worksheet.specs.declared.rule.Rule.{Rule}
use Rattle.rewriting.specs.declared.reduce.Reduced.{Reduced}
use Rattle.rewriting.specs.declared.reduce.StepFault.{StepFault}
use Rattle.rewriting.specs.declared.reduce.StepFault.TheVariants.{Spent, Overflow}
use Rattle.rewriting.specs.Reducing.{fitting, search, Way, onward, reduce, told}
use Rattle.rewriting.proofs.Searching.{search-none, fitting-contains}
use Rattle.rewriting.proofs.Reducing.{exchange_made, exchange_refused, reduce-none, reduce_spent, reduce-over, reduce_step}

-- the end, and the steps, n of which are made already
abbrev pub counted_from : ℕ → Way → Reduced
counted_from n w = record { end = w.end; steps = n + length w.trail }

-- what is told of the rest of a reduction after n steps
abbrev pub rest : ℕ → Result Way StepFault → Result Reduced StepFault
rest n x = x >>= λ w. Ok (counted_from n w)

-- no step made yet
pub rest_all : (n : ℕ) → n ≡ 0 → (x : Result Way StepFault) → told x ≡ rest n x
rest_all n z (Ok w) = let e : length w.trail ≡ n + length w.trail = omega arith in ap (λ m. Ok (record { end = w.end; steps = m })) e
rest_all n z (Err e) = refl

-- one step more is made
rest_more : (n line : ℕ) (x : Result Way StepFault) → rest n (x >>= λ w. Ok (onward line w)) ≡ rest (n + 1) x
rest_more n line (Ok w) = let e : n + suc (length w.trail) ≡ n + 1 + length w.trail = omega arith in ap (λ m. Ok (record { end = w.end; steps = m })) e
rest_more n line (Err e) = refl

-- what the rest is where no rule fits, the budget is spent, a count passes, and a step is made
module _ (t : List Rule) (a : Load) where
  pub rest-none : (b n : ℕ) → None ≡ search 0 t a → rest n (reduce t b a) ≡ Ok (record { end = a; steps = n })
  rest-none b n e = rw (reduce-none t a b (search-none t a 0 (sym e))) (let z : n + 0 ≡ n = omega arith in ap (λ m. Ok (record { end = a; steps = m })) z)

  pub rest_spent : (b n : ℕ) (r : Rule) → b ≡ 0 → fitting t a ≡ Some r → rest n (reduce t b a) ≡ Err Spent
  rest_spent b n r z e = rw (z, reduce_spent t a r e)

  pub rest_over : (b n : ℕ) (r : Rule) (f : ExchangeFault) → (b ≡ 0 → ⊥) → fitting t a ≡ Some r → Err f ≡ exchanged a r.left r.right → rest n (reduce t b a) ≡ Err Overflow
  rest_over zero n r f h e g = absurd (h refl)
  rest_over (suc b) n r f h e g = rw (reduce-over t a b r Overflow e (exchange_refused a r.left r.right (fitting-contains t a r e) f (sym g)))

  pub rest_step : (b c : ℕ) (r : Rule) (y : Load) → (b ≡ 0 → ⊥) → b ≤ c → fitting t a ≡ Some r → Ok y ≡ exchanged a r.left r.right
      → rest (c - b) (reduce t b a) ≡ rest (c - (b - 1)) (reduce t (b - 1) y)
  rest_step zero c r y h k e f = absurd (h refl)
  rest_step (suc b) c r y h k e f =
      let p : suc b - 1 ≡ b = omega arith in
      let q : c - b ≡ c - suc b + 1 = omega arith in
      rw (reduce_step t a b r y e (exchange_made a r.left r.right (fitting-contains t a r e) y (sym f))) (rest_more (c - suc b) r.line (reduce t b y) ∙ rw (p, q))
