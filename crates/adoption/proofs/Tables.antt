-- What the conditions on a table come to, and that they are met.
use Rattle.std.proofs.Common.{◌≡◌, ℕ, ◌+◌, Bool, true, false, not, List, [], ◌∷◌, ◌++◌, length, take, drop, pos, is_some, Some, None, Ok, Option, sym, refl, ap, ◌∙◌, append_assoc, add-one, arith}
use Rattle.std.specs.Option.{option_map}
use Rattle.std.specs.List.{AllByRecursion as All}
use Rattle.std.proofs.ByRecursion.{All-weaker, All-push}
use Rattle.std.proofs.lemmas.List.{take_at, drop_at, length_push}
use Rattle.std.proofs.lemmas.Bool.{and_parts, and_from, false≢true}
use Rattle.loads.specs.declared.Load.{Load}
use Rattle.loads.specs.Tests.{contains}
use Rattle.orders.specs.Laws.{Relation, Admissible}
use Rattle.worksheet.specs.declared.equation.Equation.{Equation}
use Rattle.worksheet.specs.declared.rule.Rule.{Rule}
use Rattle.worksheet.specs.Claims.{nth, named}
use Rattle.rewriting.specs.Reducing.{fitting}
use Rattle.rewriting.specs.Swaps.{equation_of}
use Rattle.soundness.specs.Sheets.{Claimed}
use Rattle.soundness.proofs.Answering.{went, goes, checked, passes}
use Rattle.soundness.proofs.Following.{nth_more, nth_last}
use Rattle.soundness.proofs.Reducing.{none_contained}
use Rattle.soundness.proofs.Ordering.{Later, Ordered, both_all}
use Rattle.soundness.proofs.Keeping.{Drops}
use Rattle.adoption.specs.declared.fault.TableFault.{TableFault}
use Rattle.adoption.specs.declared.fault.TableFault.TheVariants.{NotClaimed, NotFalling, NotReduced}
use Rattle.adoption.specs.Tables.{each, stated, rules_claimed, rules_fall, unfit, left_before, rises, reduced_at, table_reduced}
use Rattle.adoption.proofs.Sheets.{same_so, so_same}

-- a test that every rule passes
pub each_so : (test : Rule → Bool) (fault : ℕ → TableFault) (i : ℕ) (t : List Rule) (u : Unit {0}) → each (λ _ r. test r) fault i t ≡ Ok u → All (λ (r : Rule). test r ≡ true) t
each_so test fault i [] u h = tt
each_so test fault i (r ∷ t) u h = let f = went _ _ _ h in (checked _ _ _ f.first, each_so test fault (i + 1) t u f.then)

pub so_each : (test : Rule → Bool) (fault : ℕ → TableFault) (i : ℕ) (t : List Rule) → All (λ (r : Rule). test r ≡ true) t → each (λ _ r. test r) fault i t ≡ Ok tt
so_each test fault i [] h = refl
so_each test fault i (r ∷ t) h = goes _ (passes (fault (i + 1)) h.0) (so_each test fault (i + 1) t h.1)

-- the rules are their lines' claims
stated_so : (r : Rule) (o : Option Equation) → stated r o ≡ true → o ≡ Some (equation_of r)
stated_so r None h = absurd (false≢true h)
stated_so r (Some e) h = ap Some (sym (same_so (equation_of r) e h))

so_stated : (r : Rule) (o : Option Equation) → o ≡ Some (equation_of r) → stated r o ≡ true
so_stated r o h = rw h (so_same (equation_of r))

module _ (ls : List Equation) where
  abbrev states : Rule → Bool
  states r = stated r (named ls (pos r.line))

  pub claimed_so : (t : List Rule) (u : Unit {0}) → rules_claimed ls t ≡ Ok u → All (Claimed ls) t
  claimed_so t u h = All-weaker (λ (r : Rule). states r ≡ true) (Claimed ls) (λ r. stated_so r (named ls (pos r.line))) t (each_so states NotClaimed 0 t u h)

  pub so_claimed : (t : List Rule) → All (Claimed ls) t → rules_claimed ls t ≡ Ok tt
  so_claimed t h = so_each states NotClaimed 0 t (All-weaker (Claimed ls) (λ (r : Rule). states r ≡ true) (λ r. so_stated r (named ls (pos r.line))) t h)

-- they fall
module _ (above : Relation) where
  abbrev falls : Rule → Bool
  falls r = above r.left r.right

  pub fall_so : (t : List Rule) (u : Unit {0}) → rules_fall above t ≡ Ok u → All (Drops above) t
  fall_so t u h = each_so falls NotFalling 0 t u h

  pub so_fall : (t : List Rule) → All (Drops above) t → rules_fall above t ≡ Ok tt
  so_fall t h = so_each falls NotFalling 0 t h

-- no left load is contained
abbrev Unfit : List Rule → Load → Type 0
Unfit t a = All (λ (r : Rule). contains a r.left ≡ false) t

-- no rule fits
unfit-none : (o : Option Rule) → not (is_some o) ≡ true → o ≡ None
unfit-none None e = refl
unfit-none (Some r) e = absurd (false≢true e)

contained_none : (t : List Rule) (a : Load) → Unfit t a → fitting t a ≡ None
contained_none [] a h = refl
contained_none (r ∷ t) a h = rw (h.0, fitting) (contained_none t a h.1)

unfit_so : (t : List Rule) (a : Load) → unfit t a ≡ true → Unfit t a
unfit_so t a e = none_contained t a (unfit-none (fitting t a) e)

so_unfit : (t : List Rule) (a : Load) → Unfit t a → unfit t a ≡ true
so_unfit t a h = rw (contained_none t a h)

unfit-split : (xs : List Rule) (r : Rule) (a : Load) → Unfit (xs ++ (r ∷ [])) a → Unfit xs a × (contains a r.left ≡ false)
unfit-split [] r a h = (tt, h.0)
unfit-split (x ∷ xs) r a h = let ih = unfit-split xs r a h.1 in ((h.0, ih.0), ih.1)

-- the place i of a table, between the rules before and those from it on; the left load before it
record Place (t : List Rule) (i : ℕ) (before after : List Rule) (last : Option Load) : Type 0 where
  whole : t ≡ before ++ after
  here : length before ≡ i
  left : left_before t i ≡ last

module _ (t : List Rule) (i : ℕ) (before : List Rule) (r : Rule) (after : List Rule) (last : Option Load) (p : Place t i before (r ∷ after) last) where
  -- with the rule at the place among those before
  with_it : t ≡ (before ++ (r ∷ [])) ++ after
  with_it = p.whole ∙ sym (append_assoc before (r ∷ []) after)

  longer : length (before ++ (r ∷ [])) ≡ i + 1
  longer = omega (arith, length_push before r, p.here)

  stands : nth t i ≡ Some r
  stands = rw (with_it, ← p.here) (nth_more (before ++ (r ∷ [])) after (length before) r (nth_last before r))

  -- the next place
  next_place : Place t (i + 1) (before ++ (r ∷ [])) after (Some r.left)
  next_place = record { whole = with_it; here = longer; left = rw add-one (ap (option_map (λ (s : Rule). s.left)) stands) }

  taken : take i t ≡ before
  taken = rw p.whole (take_at before (r ∷ after) i p.here)

  dropped : drop (i + 1) t ≡ after
  dropped = rw with_it (drop_at (before ++ (r ∷ [])) after (i + 1) longer)

module _ (above : Relation) (t : List Rule) where
  -- a load above the one before it, if there is one
  abbrev OverLast : Option Load → Load → Type 0
  OverLast last a = rises above last a ≡ true

  -- a rule of the table after the rules before, of which the last has the left load last
  record Next (last : Option Load) (before : List Rule) (s : Rule) : Type 0 where
    over : OverLast last s.left
    free : Unfit before s.left
    rest : fitting t s.right ≡ None

  -- a rule that is reduced at its place
  record Stands (last : Option Load) (before : List Rule) (r : Rule) (after : List Rule) : Type 0 where
    here : Next last before r
    later : Unfit after r.left

  stands_so : (i : ℕ) (before : List Rule) (r : Rule) (after : List Rule) (last : Option Load) → Place t i before (r ∷ after) last → reduced_at above t i r ≡ true → Stands last before r after
  stands_so i before r after last p h =
      let f = and_parts (rises above (left_before t i) r.left) _ h in
      let g = and_parts (unfit (take i t) r.left) _ f.1 in
      let k = and_parts (unfit (drop (i + 1) t) r.left) (unfit t r.right) g.1 in
      record {
        here = record {
          over = rw p.left at f.0;
          free = rw (taken t i before r after last p) at (unfit_so (take i t) r.left g.0);
          rest = unfit-none (fitting t r.right) k.1;
        };
        later = rw (dropped t i before r after last p) at (unfit_so (drop (i + 1) t) r.left k.0);
      }

  so_stands : (i : ℕ) (before : List Rule) (r : Rule) (after : List Rule) (last : Option Load) → Place t i before (r ∷ after) last → Stands last before r after → reduced_at above t i r ≡ true
  so_stands i before r after last p s =
      and_from (rises above (left_before t i) r.left) _ (rw p.left s.here.over)
      (and_from (unfit (take i t) r.left) _ (rw (taken t i before r after last p) (so_unfit before r.left s.here.free))
      (and_from (unfit (drop (i + 1) t) r.left) (unfit t r.right) (rw (dropped t i before r after last p) (so_unfit after r.left s.later))
      (rw s.here.rest)))

  -- a reduced table passes
  so_reduced : (i : ℕ) (before after : List Rule) (last : Option Load) → Place t i before after last → All (Next last before) after → Ordered above after → each (reduced_at above t) NotReduced i after ≡ Ok tt
  so_reduced i before [] last p n o = refl
  so_reduced i before (r ∷ after) last p n o =
      let here : Stands last before r after = record { here = n.0; later = All-weaker (Later above r.left) (λ (s : Rule). contains r.left s.left ≡ false) (λ s l. l.1.1) after o.0 } in
      let rest = All-weaker (λ (s : Rule). Next last before s × Later above r.left s) (Next (Some r.left) (before ++ (r ∷ [])))
      (λ s m. record { over = m.1.0; free = All-push (λ (q : Rule). contains s.left q.left ≡ false) before r m.0.free m.1.1.0; rest = m.0.rest }) after
      (both_all (Next last before) (Later above r.left) after n.1 o.0) in
      goes _ (passes (NotReduced (i + 1)) (so_stands i before r after last p here))
      (so_reduced (i + 1) (before ++ (r ∷ [])) after (Some r.left) (next_place t i before r after last p) rest o.1)

  module _ (laws : Admissible above) where
    over_more : (last : Option Load) (a b : Load) → OverLast last a → above b a ≡ true → OverLast last b
    over_more None a b h g = refl
    over_more (Some c) a b h g = laws.trans b a c g h

    -- the rules from a place on are reduced
    reduced_so : (i : ℕ) (before after : List Rule) (last : Option Load) (u : Unit {0}) → Place t i before after last → each (reduced_at above t) NotReduced i after ≡ Ok u
        → All (Next last before) after × Ordered above after
    reduced_so i before [] last u p h = (tt, tt)
    reduced_so i before (r ∷ after) last u p h =
        let f = went _ _ _ h in
        let s = stands_so i before r after last p (checked _ _ _ f.first) in
        let ih = reduced_so (i + 1) (before ++ (r ∷ [])) after (Some r.left) u (next_place t i before r after last p) f.then in (
          (s.here, All-weaker (Next (Some r.left) (before ++ (r ∷ []))) (Next last before) (earlier s) after ih.0),
          (
            All-weaker (λ (q : Rule). Next (Some r.left) (before ++ (r ∷ [])) q × (contains r.left q.left ≡ false)) (Later above r.left)
                (λ q n. (n.0.over, (last_free q n.0.free, n.1))) after
                (both_all (Next (Some r.left) (before ++ (r ∷ []))) (λ (q : Rule). contains r.left q.left ≡ false) after ih.0 s.later),
            ih.1,
          ),
        )
      where
        last_free : (q : Rule) → Unfit (before ++ (r ∷ [])) q.left → contains q.left r.left ≡ false
        last_free q g = (unfit-split before r q.left g).1

        earlier : Stands last before r after → (q : Rule) → Next (Some r.left) (before ++ (r ∷ [])) q → Next last before q
        earlier s q n = record { over = over_more last r.left q.left s.here.over n.over; free = (unfit-split before r q.left n.free).0; rest = n.rest }

-- what a reduced table is
pub record ReducedTable (above : Relation) (t : List Rule) : Type 0 where
  pub rights : All (λ (r : Rule). fitting t r.right ≡ None) t
  pub ordered : Ordered above t

module _ (above : Relation) (t : List Rule) where
  first-place : Place t 0 [] t None
  first-place = record { whole = refl; here = refl; left = refl }

  pub table_so : Admissible above → (u : Unit {0}) → table_reduced above t ≡ Ok u → ReducedTable above t
  table_so laws u h =
      let s = reduced_so above t laws 0 [] t None u first-place h in
      record { rights = All-weaker (Next above t None []) (λ (r : Rule). fitting t r.right ≡ None) (λ r n. n.rest) t s.0; ordered = s.1 }

  pub so_table : ReducedTable above t → table_reduced above t ≡ Ok tt
  so_table s =
      so_reduced above t 0 [] t None first-place
      (All-weaker (λ (r : Rule). fitting t r.right ≡ None) (Next above t None []) (λ r e. record { over = refl; free = tt; rest = e }) t s.rights) s.ordered
