-- Chains, and what the sum with a load does to a step, a swap and a chain.
use Rattle.std.proofs.Common.{◌≡◌, List, inl, inr}
use Rattle.loads.specs.declared.Load.{Load}
use Rattle.loads.specs.Loads.{plus, minus}
use Rattle.loads.proofs.Algebra.{same, count, counts}
use Rattle.worksheet.specs.declared.equation.Equation.{Equation}
use Rattle.worksheet.specs.Claims.{turned}
use Rattle.rewriting.specs.Swaps.{Applies, Step, Swap, Chain, none, link, Joined, Reduces, Meet}

-- a chain of one link, one chain after another, and a chain back
module _ {R : Load → Load → Type 0} where
  pub one : {a b : Load} → R a b → Chain R a b
  one r = link r none

  pub then : {a b c : Load} → Chain R a b → Chain R b c → Chain R a c
  then none q = q
  then (link r p) q = link r (then p q)

  pub back : ((a b : Load) → R a b → R b a) → {a b : Load} → Chain R a b → Chain R b a
  back turn none = none
  back turn (link r p) = then (back turn p) (one (turn _ _ r))

-- a map of loads that keeps the links keeps the chains
pub along : {R S : Load → Load → Type 0} (f : Load → Load) → ((a b : Load) → R a b → Chain S (f a) (f b)) → {a b : Load} → Chain R a b → Chain S (f a) (f b)
along f g none = none
along f g (link r p) = then (g _ _ r) (along f g p)

-- a load to which an equation applies is the left load and a rest that stays
pub record Context (p : Equation) (a b : Load) : Type 0 where
  pub rest : Load
  pub before : a ≡ plus p.left rest
  pub after : b ≡ plus p.right rest

pub context : {p : Equation} {a b : Load} → Applies p a b → Context p a b
context {p} {a} t = record {
  rest = minus a p.left;
  before = same (λ k. omega (counts, t.fits k));
  after = same (λ k. omega (counts, count t.gives k));
}

-- an equation that applies to a load applies to it with any load added, and turned round it leads back
applies-plus : {p : Equation} {a b : Load} (d : Load) → Applies p a b → Applies p (plus a d) (plus b d)
applies-plus d t = record { fits = λ k. omega (counts, t.fits k); gives = same (λ k. omega (counts, t.fits k, count t.gives k)) }

pub applies_back : {p : Equation} {a b : Load} → Applies p a b → Applies (turned p) b a
applies_back t = record { fits = λ k. omega (counts, t.fits k, count t.gives k); gives = same (λ k. omega (counts, t.fits k, count t.gives k)) }

-- so it is with steps, swaps and chains of them
step_plus : {t : List Equation} {a b : Load} (d : Load) → Step t a b → Step t (plus a d) (plus b d)
step_plus d s = record { rule = s.rule; held = s.held; applies = applies-plus d s.applies }

swap-plus : {t : List Equation} {a b : Load} (d : Load) → Swap t a b → Swap t (plus a d) (plus b d)
swap-plus d s = record { equation = s.equation; held = s.held; applies = elim s.applies [ inl u ↦ inl (applies-plus d u) | inr u ↦ inr (applies-plus d u) ] }

swap_back : {t : List Equation} {a b : Load} → Swap t a b → Swap t b a
swap_back s = record { equation = s.equation; held = s.held; applies = elim s.applies [ inl u ↦ inr (applies_back u) | inr u ↦ inl (applies_back u) ] }

reduces_plus : {t : List Equation} {a b : Load} (d : Load) → Reduces t a b → Reduces t (plus a d) (plus b d)
reduces_plus d = along (λ z. plus z d) (λ _ _ s. one (step_plus d s))

pub joined-plus : {t : List Equation} {a b : Load} (d : Load) → Joined t a b → Joined t (plus a d) (plus b d)
joined-plus d = along (λ z. plus z d) (λ _ _ s. one (swap-plus d s))

pub joined_back : {t : List Equation} {a b : Load} → Joined t a b → Joined t b a
joined_back = back (λ _ _. swap_back)

-- and with loads that meet
pub meet_plus : {t : List Equation} {a b : Load} (d : Load) → Meet t a b → Meet t (plus a d) (plus b d)
meet_plus d m = record { end = plus m.end d; first = reduces_plus d m.first; second = reduces_plus d m.second }

pub meet_back : {t : List Equation} {a b : Load} → Meet t a b → Meet t b a
meet_back m = record { end = m.end; first = m.second; second = m.first }

pub meet_at : {t : List Equation} {a b c d : Load} → a ≡ c → b ≡ d → Meet t c d → Meet t a b
meet_at {t} p q m = rw (p, q) m
