-- A settled table is the only one of its families and its order.
use Rattle.std.proofs.Common.{◌≡◌, ℕ, suc, ◌<◌, true, ◌⊎◌, List, [], ◌∷◌, length, sym, refl, subst, ap₂, inl, inr, arith}
use Rattle.loads.specs.declared.Load.{Load}
use Rattle.loads.specs.Tests.{Contains}
use Rattle.loads.proofs.Algebra.{same}
use Rattle.orders.specs.Laws.{ExactlyOne, is_first, is_second, is_third, Admissible, Relation}
use Rattle.worksheet.specs.declared.equation.Equation.{Equation}
use Rattle.rewriting.specs.Swaps.{In, none, link, Joined, Reduces, Standard, Meet}
use Rattle.rewriting.specs.Settled.{Falls, Complete, Settled, place}
use Rattle.rewriting.specs.Theorems.{OneTable}
use Rattle.rewriting.proofs.Moves.{then, joined_back}
use Rattle.rewriting.proofs.Places.{members}
use Rattle.rewriting.proofs.Confluence.{step_falls}
use Rattle.rewriting.proofs.Standards.{Fitting, Ending, find, stays, ending, reduces_joined, joined_meet, standard_same}

-- equations with the same sides
equation_same : {p q : Equation} → p.left ≡ q.left → p.right ≡ q.right → p ≡ q
equation_same e f = λ i. record { left = e i; right = f i }

module _ (above : Relation) (laws : Admissible above) where
  -- the first law, as it is used here
  never_both : (x y : Load) → above x y ≡ true → above y x ≡ true → ⊥
  never_both x y a b = go (laws.one x y)
    where
      go : ExactlyOne (above x y ≡ true) (above y x ≡ true) (x ≡ y) → ⊥
      go (is_first _ nb _) = nb b
      go (is_second na _ _) = na a
      go (is_third na _ _) = na a

  -- what a reduction ends in is the same load or below
  pub reduces_falls : {table : List Equation} → Falls above table → {a b : Load} → Reduces table a b → (a ≡ b) ⊎ (above a b ≡ true)
  reduces_falls falls none = inl refl
  reduces_falls {table} falls {a} {b} (link {b = m} s p) =
      let h = step_falls above laws table falls s in
      inr (elim (reduces_falls falls p) [ inl e ↦ rw e at h | inr g ↦ laws.trans a m b h g ])

  -- each left load is below all later ones
  abbrev Rises : List Equation → Type 0
  Rises [] = Unit {0}
  Rises (p ∷ t) = ((q : Equation) → In q t → above q.left p.left ≡ true) × Rises t

  -- the same, said of neighbours
  abbrev Adjacent : List Equation → Type 0
  Adjacent t = (i : ℕ) → suc i < length t → above (place t (suc i)).left (place t i).left ≡ true

  above_head : (p : Equation) (t : List Equation) → Adjacent (p ∷ t) → (q : Equation) → In q t → above q.left p.left ≡ true
  above_head p [] h q m = absurd m
  above_head p (r ∷ t) h q (inl e) = rw e (h 0 (omega arith))
  above_head p (r ∷ t) h q (inr m) =
      laws.trans q.left r.left p.left (above_head r t (λ i l. h (suc i) (omega arith)) q m) (h 0 (omega arith))

  rises : (t : List Equation) → Adjacent t → Rises t
  rises [] h = tt
  rises (p ∷ t) h = (above_head p t h, rises t (λ i l. h (suc i) (omega arith)))

  -- two rising lists with the same members
  same_head : (p q : Equation) (t t' : List Equation) → Rises (p ∷ t) → Rises (q ∷ t') → In p (q ∷ t') → In q (p ∷ t) → p ≡ q
  same_head p q t t' h h' (inl e) n = e
  same_head p q t t' h h' (inr m) (inl e) = sym e
  same_head p q t t' h h' (inr m) (inr n) = absurd (never_both p.left q.left (h'.0 p m) (h.0 q n))

  in_tail : (p q x : Equation) (t t' : List Equation) → p ≡ q → Rises (p ∷ t) → In x t → In x (q ∷ t') → In x t'
  in_tail p q x t t' e h m (inl f) =
      let g : above x.left x.left ≡ true = rw (e, ← f) at (h.0 x m) in
      absurd (never_both x.left x.left g g)
  in_tail p q x t t' e h m (inr n) = n

  same_list : (t t' : List Equation) → Rises t → Rises t' → ((p : Equation) → In p t → In p t') → ((p : Equation) → In p t' → In p t) → t ≡ t'
  same_list [] [] h h' f g = refl
  same_list [] (q ∷ t') h h' f g = absurd (g q (inl refl))
  same_list (p ∷ t) [] h h' f g = absurd (f p (inl refl))
  same_list (p ∷ t) (q ∷ t') h h' f g =
      let e : p ≡ q = same_head p q t t' h h' (f p (inl refl)) (g q (inl refl)) in
      ap₂ ◌∷◌ e (same_list t t' h.1 h'.1 (λ x m. in_tail p q x t t' e h m (f x (inr m))) (λ x m. in_tail q p x t' t (sym e) h' m (g x (inr m))))

  -- a table that reduces the same loads to one joins them by its book
  same_table : (book book' table table' : List Equation) → Complete above book table → Complete above book' table' → table ≡ table'
      → (a b : Load) → Joined book a b → Joined book' a b
  same_table book book' table table' c c' e a b j =
      let m : Meet table' a b = subst (λ (t : List Equation). Meet t a b) e (joined_meet above laws book table c j) in
      then (reduces_joined above laws book' table' c' m.first) (joined_back (reduces_joined above laws book' table' c' m.second))

  module _ (book book' table table' : List Equation) (c : Complete above book table) (c' : Complete above book' table')
      (here : (a b : Load) → Joined book' a b → Joined book a b) where
    -- a load that is standard in the one table is standard in the other
    carry : (s : Load) → Standard table s → Standard table' s
    carry s h = go (reduces_falls c'.falls e.reached) (reduces_falls c.falls down)
      where
        e : Ending table' s
        e = ending above laws table' c'.falls s

        m : Meet table s e.load
        m = joined_meet above laws book table c (here s e.load (reduces_joined above laws book' table' c' e.reached))

        down : Reduces table e.load s
        down = rw (← stays h m.first) at m.second

        go : (s ≡ e.load) ⊎ (above s e.load ≡ true) → (e.load ≡ s) ⊎ (above e.load s ≡ true) → Standard table' s
        go (inl q) k = rw q e.standard
        go (inr l) (inl q) = rw q at e.standard
        go (inr l) (inr k) = absurd (never_both s e.load l k)

  module _ (book book' table table' : List Equation) (z : Settled above book table) (z' : Settled above book' table')
      (there : (a b : Load) → Joined book a b → Joined book' a b) (here : (a b : Load) → Joined book' a b → Joined book a b) where
    -- a rule of the one table is a rule of the other
    over : (p : Equation) → In p table → In p table'
    over p m = outer (find table' p.left)
      where
        c : Complete above book table
        c = z.complete

        c' : Complete above book' table'
        c' = z'.complete

        same_rule : (q : Equation) → In q table' → p.left ≡ q.left → In p table'
        same_rule q n e =
            let from : Joined book' p.right p.left = joined_back (there p.left p.right (c.follows p m)) in
            let to : Joined book' p.left q.right = rw e (c'.follows q n) in
            let right = standard_same above laws book' table' c' (then from to) (carry book book' table table' c c' here p.right (z.rights p m)) (z'.rights q n) in
            rw (equation_same e right) n

        own : (q : Equation) → In q table → Contains p.left q.left → p ≡ q
        own q n h = elim (members table (λ (x y : Equation). (Contains x.left y.left → ⊥) × (Contains y.left x.left → ⊥))
            (λ i j l b. (z.lefts i j (omega arith) b (omega arith), z.lefts j i b (omega arith) (omega arith))) p q m n) [
              | inl e ↦ e
              | inr (inl f) ↦ absurd (f.0 h)
              | inr (inr f) ↦ absurd (f.1 h)
            ]

        inner : (q : Equation) → In q table' → Contains p.left q.left → Fitting table q.left ⊎ Standard table q.left → In p table'
        inner q n h (inl r) =
            let e = own r.rule r.held (λ k. omega (arith, h k, r.fits k)) in
            same_rule q n (same (λ k. omega (arith, h k, (rw (← e) at r.fits) k)))
        inner q n h (inr s) = absurd (carry book book' table table' c c' here q.left s q n (λ k. omega arith))

        outer : Fitting table' p.left ⊎ Standard table' p.left → In p table'
        outer (inl q) = inner q.rule q.held q.fits (find table q.rule.left)
        outer (inr s) = absurd (carry book' book table' table c' c there p.left s p m (λ k. omega arith))

pub one_table : OneTable
one_table above laws book book' table table' z z' = (
  λ e a b. (
    same_table above laws book book' table table' z.complete z'.complete e a b,
    same_table above laws book' book table' table z'.complete z.complete (sym e) a b,
  ),
  λ f.
      let there = λ (a b : Load). (f a b).0 in
      let here = λ (a b : Load). (f a b).1 in
      same_list above laws table table' (rises above laws table z.rising) (rises above laws table' z'.rising)
      (over above laws book book' table table' z z' there here) (over above laws book' book table' table z' z here there),
)
