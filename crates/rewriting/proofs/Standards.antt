-- Every family has exactly one standard load, and it tells the families apart.
use Rattle.std.proofs.Common.{◌≡◌, true, ◌⊎◌, List, [], ◌∷◌, sym, refl, ◌∙◌, subst₂, inl, inr}
use mathlib.Core.WellFounded.Acc
use Rattle.loads.specs.declared.Load.{Load}
use Rattle.loads.specs.Loads.{plus, minus}
use Rattle.loads.specs.Tests.{Contains}
use Rattle.loads.proofs.Deciding.{decided, contains_decides}
use Rattle.orders.specs.Laws.{Admissible, Relation}
use Rattle.worksheet.specs.declared.equation.Equation.{Equation}
use Rattle.rewriting.specs.Swaps.{In, Step, Swap, none, link, Joined, Reduces, Standard, Meet}
use Rattle.rewriting.specs.Settled.{Falls, Complete}
use Rattle.rewriting.specs.Theorems.{OneStandard, Families, ReducingTells}
use Rattle.rewriting.proofs.Moves.{then, along, context, joined-plus, joined_back, meet_plus, meet_back, meet_at}
use Rattle.rewriting.proofs.Confluence.{church_rosser, step_falls}

-- a rule that fits
pub record Fitting (table : List Equation) (a : Load) : Type 0 where
  pub rule : Equation
  pub held : In rule table
  pub fits : Contains a rule.left

-- some rule fits, or the load is standard
pub find : (table : List Equation) (a : Load) → Fitting table a ⊎ Standard table a
find [] a = inr (λ r m f. m)
find (p ∷ t) a = go (decided _ (contains_decides a p.left)) (find t a)
  where
    go : Contains a p.left ⊎ (Contains a p.left → ⊥) → Fitting t a ⊎ Standard t a → Fitting (p ∷ t) a ⊎ Standard (p ∷ t) a
    go (inl f) e = inl (record { rule = p; held = inl refl; fits = f })
    go (inr n) (inl f) = inl (record { rule = f.rule; held = inr f.held; fits = f.fits })
    go (inr n) (inr h) = inr (λ r m f. elim m [ inl e ↦ n (rw e at f) | inr m ↦ h r m f ])

-- a standard load reduces to itself alone
pub stays : {table : List Equation} {s b : Load} → Standard table s → Reduces table s b → s ≡ b
stays h none = refl
stays h (link r p) = absurd (h r.rule r.held r.applies.fits)

-- a standard load that a load reduces to
pub record Ending (table : List Equation) (a : Load) : Type 0 where
  pub load : Load
  pub reached : Reduces table a load
  pub standard : Standard table load

module _ (above : Relation) (laws : Admissible above) (table : List Equation) (falls : Falls above table) where
  ending_step : (a : Load) → ((m : Load) → above a m ≡ true → Ending table m) → Ending table a
  ending_step a ih = go (find table a)
    where
      go : Fitting table a ⊎ Standard table a → Ending table a
      go (inr h) = record { load = a; reached = none; standard = h }
      go (inl f) =
          let b = plus (minus a f.rule.left) f.rule.right in
          let s : Step table a b = record { rule = f.rule; held = f.held; applies = record { fits = f.fits; gives = refl } } in
          let e = ih b (step_falls above laws table falls s) in
          record { load = e.load; reached = link s e.reached; standard = e.standard }

  -- every load has one, since the rows below it end
  pub ending : (a : Load) → Ending table a
  ending a = Acc.ndrec {C = Ending table} (λ x _ ih. ending_step x ih) (laws.ends a)

module _ (above : Relation) (laws : Admissible above) (book table : List Equation) (c : Complete above book table) where
  -- a step joins, since its rule follows from the book
  step_joined : (a b : Load) → Step table a b → Joined book a b
  step_joined a b s =
      let u = context s.applies in
      subst₂ (Joined book) (sym u.before) (sym u.after) (joined-plus u.rest (c.follows s.rule s.held))

  pub reduces_joined : {a b : Load} → Reduces table a b → Joined book a b
  reduces_joined = along (λ z. z) step_joined

  -- a swap's loads meet, since its equation does
  swap_meet : {a b : Load} → Swap book a b → Meet table a b
  swap_meet s = elim s.applies [
    | inl t ↦ let u = context t in meet_at u.before u.after (meet_plus u.rest (c.equations s.equation s.held))
    | inr t ↦ let u = context t in meet_at u.before u.after (meet_plus u.rest (meet_back (c.equations s.equation s.held)))
  ]

  meet_then : {a b d : Load} → Meet table a b → Meet table b d → Meet table a d
  meet_then {b = b} m n =
      let w = church_rosser above laws table c.falls c.pairs b m.end n.end m.second n.first in
      record { end = w.end; first = then m.first w.first; second = then n.second w.second }

  -- loads of one family meet
  pub joined_meet : {a b : Load} → Joined book a b → Meet table a b
  joined_meet {a} none = record { end = a; first = none; second = none }
  joined_meet (link s p) = meet_then (swap_meet s) (joined_meet p)

  -- two standard loads of one family are the same
  pub standard_same : {s s' : Load} → Joined book s s' → Standard table s → Standard table s' → s ≡ s'
  standard_same j h h' = let m = joined_meet j in stays h m.first ∙ sym (stays h' m.second)

pub one-standard : OneStandard
one-standard above laws book table c a =
    let e = ending above laws table c.falls a in
    let j = reduces_joined above laws book table c e.reached in
    (e.load, (j, e.standard), λ s' h. standard_same above laws book table c (then (joined_back h.0) j) h.1 e.standard)

pub families : Families
families above laws book table c a b s s' j h j' h' = (
  λ k. standard_same above laws book table c (then (joined_back j) (then k j')) h h',
  λ e. then j (rw e (joined_back j')),
)

pub reducing_tells : ReducingTells
reducing_tells above laws book table c a b s s' r h r' h' =
    families above laws book table c a b s s' (reduces_joined above laws book table c r) h (reduces_joined above laws book table c r') h'
