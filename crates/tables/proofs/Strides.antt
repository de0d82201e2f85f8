-- The next step, by what the search and the exchange give, and the trail that it begins.
use Rattle.std.proofs.Common.{◌≡◌, ℕ, zero, suc, List, [], ◌∷◌, get_or, Some, None, Ok, Err, Option, Result, sym, refl, ap, ◌∙◌}
use Rattle.std.specs.Option.{option_map}
use Rattle.std.specs.Result.{result_ok}
use Rattle.loads.specs.declared.Load.{Load}
use Rattle.loads.specs.declared.exchange.ExchangeFault.{ExchangeFault}
use Rattle.loads.specs.Exchange.{swapped, exchanged}
use Rattle.worksheet.specs.declared.rule.Rule.{Rule}
use Rattle.rewriting.specs.declared.reduce.StepFault.{StepFault}
use Rattle.rewriting.specs.Reducing.{fitting, search, sized}
use Rattle.rewriting.proofs.Searching.{search-none, search_read, fitting-contains}
use Rattle.rewriting.proofs.Reducing.{exchange_made, exchange_refused}
use Rattle.tables.specs.declared.stride.Stride.{Stride}
use Rattle.tables.specs.Trails.{stride_by, stride, trail}

module _ (t : List Rule) (a : Load) where
  -- no rule fits; the search was in u, which has the rules of t
  pub stride-none : (u : List Rule) → u ≡ t → None ≡ search 0 u a → stride t a ≡ None
  stride-none u same e = rw (search-none t a 0 (ap (λ v. search 0 v a) (sym same) ∙ sym e), stride)

  -- the rule read at the place found is the one that fits
  pub fits_read : (u : List Rule) (k : ℕ) (r : Rule) → u ≡ t → Some k ≡ search 0 u a → r ≡ get_or t k r → fitting t a ≡ Some r
  fits_read u k r same e read = search_read t a k r (e ∙ ap (λ v. search 0 v a) same) read

  module _ (r : Rule) (fit : fitting t a ≡ Some r) where
    stride_is : stride t a ≡ stride_by a r
    stride_is = rw (fit, stride)

    -- the step is made
    pub stride-sized : (y : Load) → sized (swapped a r.left r.right) ≡ Ok y → stride t a ≡ Some (record { line = r.line; load = y })
    stride-sized y e = stride_is ∙ ap (λ (x : Result Load StepFault). elim x [ Ok y ↦ Some (record { line = r.line; load = y }) | Err e ↦ None ]) e

    -- the step by what the exchange gives; where it gives nothing a count is in the way, and no step is made
    pub stride_next : (o : Option Load) → o ≡ result_ok (exchanged a r.left r.right) → stride t a ≡ option_map (λ (y : Load). record { line = r.line; load = y }) o
    stride_next o e = go (exchanged a r.left r.right) refl ∙ ap (option_map (λ (y : Load). record { line = r.line; load = y })) (sym e)
      where
        go : (x : Result Load ExchangeFault) → exchanged a r.left r.right ≡ x → stride t a ≡ option_map (λ (y : Load). record { line = r.line; load = y }) (result_ok x)
        go (Ok y) d = stride-sized y (exchange_made a r.left r.right (fitting-contains t a r fit) y d)
        go (Err f) d =
            stride_is
            ∙ ap (λ (x : Result Load StepFault). elim x [ Ok y ↦ Some (record { line = r.line; load = y }) | Err e ↦ None ])
            (exchange_refused a r.left r.right (fitting-contains t a r fit) f d)

  -- no step more
  pub trail-none : (n : ℕ) → stride t a ≡ None → trail t n a ≡ []
  trail-none zero e = refl
  trail-none (suc n) e = rw (e, trail)

  -- one step more
  pub trail-some : (n m : ℕ) (s : Stride) → n ≡ suc m → stride t a ≡ Some s → trail t n a ≡ s.line ∷ trail t m s.load
  trail-some n m s k e = rw k (rw (e, trail))
