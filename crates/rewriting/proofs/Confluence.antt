-- The Church-Rosser theorem: local confluence from the critical pairs, and Newman's lemma.
use Rattle.std.proofs.Common.{◌≡◌, ℕ, min, true, ◌⊎◌, List, sym, subst₂, inl, inr, arith}
use mathlib.Core.WellFounded.Acc
use Rattle.std.proofs.lemmas.Bool.{cases_lt}
use Rattle.loads.specs.declared.Load.{Load}
use Rattle.loads.specs.Loads.{at, plus, minus, shared}
use Rattle.loads.specs.Tests.{Share}
use Rattle.loads.proofs.Algebra.{same, count, counts}
use Rattle.loads.proofs.Deciding.{decided, shares_decides}
use Rattle.orders.specs.Laws.{Admissible, Relation}
use Rattle.worksheet.specs.declared.equation.Equation.{Equation}
use Rattle.rewriting.specs.Swaps.{In, Step, none, link, Reduces, Meet}
use Rattle.rewriting.specs.Settled.{reduct, Falls, PairsMeet}
use Rattle.rewriting.specs.Theorems.{ChurchRosser}
use Rattle.rewriting.proofs.Moves.{one, then, context, meet_plus, meet_back, meet_at}
use Rattle.rewriting.proofs.Places.{members}

-- loads that share no article
apart : (x y : Load) → (Share x y → ⊥) → (k : ℕ) → min (at x k) (at y k) ≡ 0
apart x y n k = elim (cases_lt 0 (min (at x k) (at y k))) [ inl l ↦ absurd (n (k, omega arith, omega arith)) | inr l ↦ omega arith ]

module _ (table : List Equation) (pairs : PairsMeet table) where
  -- rules whose left loads share nothing go one after the other
  apart_meet : (p q : Equation) → In p table → In q table → ((k : ℕ) → min (at p.left k) (at q.left k) ≡ 0) → Meet table (reduct p q) (reduct q p)
  apart_meet p q m n h = record {
    end = plus p.right q.right;
    first = one (record { rule = q; held = n; applies = record { fits = λ k. omega (counts, h k); gives = same (λ k. omega (counts, h k)) } });
    second = one (record { rule = p; held = m; applies = record { fits = λ k. omega (counts, h k); gives = same (λ k. omega (counts, h k)) } });
  }

  -- what two rules make of their peak meets
  peak : (p q : Equation) → In p table → In q table → Meet table (reduct p q) (reduct q p)
  peak p q m n = go (decided _ (shares_decides p.left q.left))
    where
      turn : Share p.left q.left → Share q.left p.left
      turn s = (s.0, s.2, s.1)

      go : Share p.left q.left ⊎ (Share p.left q.left → ⊥) → Meet table (reduct p q) (reduct q p)
      go (inr h) = apart_meet p q m n (apart p.left q.left h)
      go (inl s) = elim (members table (λ (x y : Equation). Share x.left y.left → Meet table (reduct x y) (reduct y x)) pairs p q m n) [
        | inl e ↦ rw e (record { end = reduct q q; first = none; second = none })
        | inr (inl f) ↦ f s
        | inr (inr f) ↦ meet_back (f (turn s))
      ]

  -- two steps from one load meet
  local : (a b c : Load) → Step table a b → Step table a c → Meet table b c
  local a b c s u =
      let p = s.rule in
      let q = u.rule in
      let d = minus a (minus (plus p.left q.left) (shared p.left q.left)) in
      meet_at {c = plus (reduct p q) d} {d = plus (reduct q p) d}
      (same (λ k. omega (counts, s.applies.fits k, u.applies.fits k, count s.applies.gives k)))
      (same (λ k. omega (counts, s.applies.fits k, u.applies.fits k, count u.applies.gives k)))
      (meet_plus d (peak p q s.held u.held))

module _ (above : Relation) (laws : Admissible above) (table : List Equation) (falls : Falls above table) where
  -- a step leads to a lower load
  pub step_falls : {a b : Load} → Step table a b → above a b ≡ true
  step_falls s =
      let p = s.rule in
      let u = context s.applies in
      subst₂ (λ (x y : Load). above x y ≡ true) (sym u.before) (sym u.after) (laws.adds p.left p.right u.rest (falls p s.held))

  -- Newman's lemma: if the reductions of every lower load meet, so do those of a load
  newman_step : PairsMeet table → (a : Load) → ((m : Load) → above a m ≡ true → (b c : Load) → Reduces table m b → Reduces table m c → Meet table b c)
      → (b c : Load) → Reduces table a b → Reduces table a c → Meet table b c
  newman_step pairs a ih b c none q = record { end = c; first = q; second = none }
  newman_step pairs a ih b c (link r p) none = record { end = b; first = none; second = link r p }
  newman_step pairs a ih b c (link {b = m} r p) (link {b = n} s q) =
      let l = local table pairs a m n r s in
      let x = ih m (step_falls r) b l.end p l.first in
      let y = ih n (step_falls s) x.end c (then l.second x.second) q in
      record { end = y.end; first = then x.first y.first; second = y.second }

pub church_rosser : ChurchRosser
church_rosser above laws table falls pairs a =
    Acc.ndrec {C = λ (a : Load). (b c : Load) → Reduces table a b → Reduces table a c → Meet table b c}
    (λ x _ ih. newman_step above laws table falls pairs x ih) (laws.ends a)
