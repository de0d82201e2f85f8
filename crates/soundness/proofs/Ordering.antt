-- Tables whose left loads rise and do not contain one another.
use Rattle.std.proofs.Common.{◌≡◌, ℕ, zero, suc, ◌+◌, Bool, true, false, cond, not, List, [], ◌∷◌, set, is_some, Some, None, Option, sym, refl, ap, subst, arith}
use Rattle.std.specs.List.{AllByRecursion as All}
use Rattle.std.proofs.ByRecursion.{All-set, All-weaker, all_kept_by}
use Rattle.std.proofs.lemmas.Bool.{both_ways}
use Rattle.loads.specs.declared.Load.{Load}
use Rattle.loads.specs.Tests.{contains}
use Rattle.loads.proofs.Deciding.{contains_decides}
use Rattle.orders.specs.Laws.{Relation, Admissible, is_first, is_second, is_third, ExactlyOne}
use Rattle.worksheet.specs.declared.rule.Rule.{Rule}
use Rattle.worksheet.specs.Claims.{nth}
use Rattle.rewriting.specs.Reducing.{fitting}
use Rattle.tables.specs.Placing.{without, enter}
use Rattle.completion.specs.declared.found.Found.{Found}
use Rattle.completion.specs.Changing.{unfinished}
use Rattle.soundness.proofs.Answering.{none_not_some, some_same}
use Rattle.soundness.proofs.Following.{nth_all}

-- neither left load contains the other
abbrev pub Apart : Load → Rule → Type 0
Apart a s = (contains s.left a ≡ false) × (contains a s.left ≡ false)

-- a rule later in the table than one with the left load a
abbrev pub Later : Relation → Load → Rule → Type 0
Later above a s = (above s.left a ≡ true) × Apart a s

-- left loads rise, and none contains another
abbrev pub Ordered : Relation → List Rule → Type 0
Ordered above [] = Unit {0}
Ordered above (r ∷ t) = All (Later above r.left) t × Ordered above t

contains_self : (a : Load) → contains a a ≡ true
contains_self a = (contains_decides a a).1 (λ k. omega arith)

-- what was removed is gone
pub without-none : (l : Load) (t : List Rule) → All (λ (s : Rule). contains s.left l ≡ false) (without l t)
without-none l [] = tt
without-none l (s ∷ t) = go (contains s.left l) refl (without-none l t)
  where
    go : (b : Bool) → contains s.left l ≡ b → All (λ (s : Rule). contains s.left l ≡ false) (without l t)
        → All (λ (s : Rule). contains s.left l ≡ false) (cond (not b) (s ∷ without l t) (without l t))
    go true e ih = ih
    go false e ih = (e, ih)

pub both_all : (P Q : Rule → Type 0) (t : List Rule) → All P t → All Q t → All (λ (r : Rule). P r × Q r) t
both_all P Q [] h g = tt
both_all P Q (r ∷ t) h g = ((h.0, g.0), both_all P Q t h.1 g.1)

-- what holds of all rules and of the new one holds of all once it has its place
pub all_enter : (P : Rule → Type 0) (above : Relation) (r : Rule) (t : List Rule) → P r → All P t → All P (enter above r t)
all_enter P above r [] p h = (p, tt)
all_enter P above r (s ∷ t) p h = go (above r.left s.left) (all_enter P above r t p h.1)
  where
    go : (b : Bool) → All P (enter above r t) → All P (cond b (s ∷ enter above r t) (r ∷ s ∷ t))
    go true ih = (h.0, ih)
    go false ih = (p, h)

module _ (above : Relation) where
  -- removal keeps the order
  pub ordered_without : (l : Load) (t : List Rule) → Ordered above t → Ordered above (without l t)
  ordered_without l [] h = tt
  ordered_without l (s ∷ t) h = go (contains s.left l) (ordered_without l t h.1)
    where
      go : (b : Bool) → Ordered above (without l t) → Ordered above (cond (not b) (s ∷ without l t) (without l t))
      go true ih = ih
      go false ih = (all_kept_by (λ (r : Rule). not (contains r.left l)) (Later above s.left) t h.0, ih)

  module _ (laws : Admissible above) where
    -- of two left loads apart, where the one is not above the other, the other is above it
    other_above : (a b : Load) → above a b ≡ false → contains b a ≡ false → above b a ≡ true
    other_above a b n c = at (laws.one a b)
      where
        at : ExactlyOne (above a b ≡ true) (above b a ≡ true) (a ≡ b) → above b a ≡ true
        at (is_first x _ _) = absurd (both_ways (above a b) n x)
        at (is_second _ y _) = y
        at (is_third _ _ z) = absurd (both_ways (contains b a) c (rw z (contains_self b)))

    -- a new rule at its place keeps the order
    pub ordered_enter : (r : Rule) (t : List Rule) → All (Apart r.left) t → Ordered above t → Ordered above (enter above r t)
    ordered_enter r [] a h = (tt, tt)
    ordered_enter r (s ∷ t) a h = go (above r.left s.left) refl (ordered_enter r t a.1 h.1)
      where
        go : (b : Bool) → above r.left s.left ≡ b → Ordered above (enter above r t) → Ordered above (cond b (s ∷ enter above r t) (r ∷ s ∷ t))
        go true e ih = (all_enter (Later above s.left) above r t (e, (a.0.1, a.0.0)) h.0, ih)
        go false e ih =
            let up = other_above r.left s.left e a.0.0 in (
              (
                (up, a.0),
                All-weaker (λ (u : Rule). Later above s.left u × Apart r.left u) (Later above r.left)
                    (λ u g. (laws.trans u.left s.left r.left g.0.0 up, g.1)) t (both_all (Later above s.left) (Apart r.left) t h.0 a.1),
              ),
              h,
            )

  -- so does another right load
  pub ordered_set : (t : List Rule) (i : ℕ) (r r' : Rule) → nth t i ≡ Some r → r'.left ≡ r.left → Ordered above t → Ordered above (set t i r')
  ordered_set [] i r r' n e h = absurd (none_not_some n)
  ordered_set (s ∷ t) zero r r' n e h = (rw (some_same n, ← e) at h.0, h.1)
  ordered_set (s ∷ t) (suc i) r r' n e h = (
    All-set (Later above s.left) t i r' (subst (λ (x : Load). (above x s.left ≡ true) × ((contains x s.left ≡ false) × (contains s.left x ≡ false))) (sym e) (nth_all (Later above s.left) t i r h.0 n)) h.0,
    ordered_set t i r r' n e h.1,
  )

-- the first unfinished rule stands at its place
pub record AtPlace (i : ℕ) (t : List Rule) (f : Found) : Type 0 where
  pub on : ℕ
  pub place : f.place ≡ i + on
  pub stands : nth t on ≡ Some f.rule

pub unfinished-at : (t : List Rule) (i : ℕ) (rs : List Rule) (f : Found) → unfinished t i rs ≡ Some f → AtPlace i rs f
unfinished-at t i [] f e = absurd (none_not_some e)
unfinished-at t i (s ∷ rs) f e = go (is_some (fitting t s.right)) e (unfinished-at t (i + 1) rs f)
  where
    go : (b : Bool) → cond b (Some (record { place = i; rule = s })) (unfinished t (i + 1) rs) ≡ Some f
        → (unfinished t (i + 1) rs ≡ Some f → AtPlace (i + 1) rs f) → AtPlace i (s ∷ rs) f
    go true e ih =
        let q = some_same e in
        record { on = 0; place = let z : i ≡ f.place = ap (λ (x : Found). x.place) q in omega arith; stands = ap (λ (x : Found). Some x.rule) q }
    go false e ih = let g = ih e in record { on = suc g.on; place = omega (arith, g.place); stands = g.stands }

-- where none is unfinished, no rule fits a right load
pub unfinished-none : (t : List Rule) (i : ℕ) (rs : List Rule) → unfinished t i rs ≡ None → All (λ (r : Rule). fitting t r.right ≡ None) rs
unfinished-none t i [] e = tt
unfinished-none t i (s ∷ rs) e = go (fitting t s.right) refl e (unfinished-none t (i + 1) rs)
  where
    go : (o : Option Rule) → fitting t s.right ≡ o → cond (is_some o) (Some (record { place = i; rule = s })) (unfinished t (i + 1) rs) ≡ None
        → (unfinished t (i + 1) rs ≡ None → All (λ (r : Rule). fitting t r.right ≡ None) rs) → All (λ (r : Rule). fitting t r.right ≡ None) (s ∷ rs)
    go (Some _) s e ih = absurd (none_not_some (sym e))
    go None s e ih = (s, ih e)
