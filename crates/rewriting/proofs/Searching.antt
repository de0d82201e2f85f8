-- The search is the library's `position`, and what stands at the place found.
use Rattle.std.proofs.Common.{◌≡◌, ℕ, suc, ◌+◌, Bool, true, false, List, [], ◌∷◌, get_or, Some, None, sym, refl, ap, ◌∙◌, arith}
use Rattle.std.proofs.lemmas.Iterator.Adapters.{position_from-zero}
use Rattle.std.specs.List.{position, position_from}
use Rattle.loads.specs.declared.Load.{Load}
use Rattle.loads.specs.Tests.{contains}
use Rattle.worksheet.specs.declared.rule.Rule.{Rule}
use Rattle.rewriting.specs.Reducing.{fitting, search}

-- the rule at the place found is the first that fits
record Found (t : List Rule) (a : Load) (i k : ℕ) : Type 0 where
  j : ℕ
  is : k ≡ i + j
  fit : (d : Rule) → fitting t a ≡ Some (get_or t j d)

found : (t : List Rule) (a : Load) (i k : ℕ) → search i t a ≡ Some k → Found t a i k
found [] a i k e = let z : ◌≡◌ {A = ℕ} 0 1 = cc in absurd (omega arith)
found (r ∷ t) a i k e = go (contains a r.left) refl (found t a (i + 1) k)
  where
    go : (b : Bool) → contains a r.left ≡ b → (search (i + 1) t a ≡ Some k → Found t a (i + 1) k) → Found (r ∷ t) a i k
    go true f ih = record { j = 0; is = grind arith; fit = λ d. rw (f, fitting) }
    go false f ih = let w = ih (rw (f, search) at e) in record { j = suc w.j; is = omega (arith, w.is); fit = λ d. rw (f, fitting) (w.fit d) }

search-some : (t : List Rule) (a : Load) (k : ℕ) (d : Rule) → search 0 t a ≡ Some k → fitting t a ≡ Some (get_or t k d)
search-some t a k d e =
    let w = found t a 0 k e in
    let q : k ≡ w.j = omega (arith, w.is) in
    rw q (w.fit d)

-- some rule fits, and a rule read at the place is that one
pub search-fits : (t : List Rule) (a : Load) (k : ℕ) → Some k ≡ search 0 t a → (r : Rule) × (fitting t a ≡ Some r)
search-fits t a k e = let d : Rule = record { left = a; right = a; line = 0 } in (get_or t k d, search-some t a k d (sym e))

pub search_read : (t : List Rule) (a : Load) (k : ℕ) (r : Rule) → Some k ≡ search 0 t a → r ≡ get_or t k r → fitting t a ≡ Some r
search_read t a k r e q = search-some t a k r (sym e) ∙ ap Some (sym q)

-- no place, and no rule
pub search-none : (t : List Rule) (a : Load) (i : ℕ) → search i t a ≡ None → fitting t a ≡ None
search-none [] a i e = refl
search-none (r ∷ t) a i e = let ih = search-none t a (i + 1) in grind arith

-- what fits is contained
pub fitting-contains : (t : List Rule) (a : Load) (r : Rule) → fitting t a ≡ Some r → contains a r.left ≡ true
fitting-contains [] a r e = let z : ◌≡◌ {A = ℕ} 0 1 = cc in absurd (omega arith)
fitting-contains (s ∷ t) a r e = let ih = fitting-contains t a r in grind arith

-- the search is std's `position`
search_from : (t : List Rule) (a : Load) (i : ℕ) → position_from (λ (r : Rule). contains a r.left) i t ≡ search i t a
search_from [] a i = refl
search_from (r ∷ t) a i = let ih = search_from t a (i + 1) in grind arith

pub search_position : (t : List Rule) (a : Load) → position (λ (r : Rule). contains a r.left) t ≡ search 0 t a
search_position t a = position_from-zero (λ (r : Rule). contains a r.left) t ∙ search_from t a 0
