-- Pairs of ranked values, the second of which decides where the first is the same: the lexicographic product of two rankings is a ranking.
use Rattle.std.specs.Prelude.{◌≡◌, Bool, true, cond, ◌⊎◌, Decides, ◌≢◌}
use Rattle.std.proofs.Common.{sym, ap, ◌∙◌, inl, inr, ⊎_elim}
use Rattle.std.proofs.Math.Logic.Or
use mathlib.Core.WellFounded.Subrelation
use mathlib.Core.WellFounded.Prod
use mathlib.Core.WellFounded.{Acc}
use Rattle.std.proofs.lemmas.Bool.{cases_Bool, cond-true, cond-false}
use Rattle.loads.proofs.Deciding.{decided}
use Rattle.orders.specs.Laws.{is_first, is_second, is_third}
use Rattle.orders.specs.Rankings.{Ranks, Ranking}

-- the upper relation compares the first values; where these are the same, the lower one compares the second
abbrev pub paired : {K L : Type 0} → (K → K → Bool) → (K → K → Bool) → (L → L → Bool) → K × L → K × L → Bool
paired same upper lower p q = cond (same p.0 q.0) (lower p.1 q.1) (upper p.0 q.0)

module _
    {K L : Type 0} {none₁ : K} {none₂ : L} {sum₁ : K → K → K} {sum₂ : L → L → L} {upper : K → K → Bool} {lower : L → L → Bool}
    (same : K → K → Bool) (decides : (x y : K) → Decides (same x y) (x ≡ y)) (r₁ : Ranking none₁ sum₁ upper) (r₂ : Ranking none₂ sum₂ lower)
  where
    -- the relation of the pairs
    abbrev over : K × L → K × L → Bool
    over = paired same upper lower

    -- the first value is above, or it is the same and the second is above
    abbrev Over : K × L → K × L → Type 0
    Over p q = (upper p.0 q.0 ≡ true) ⊎ ((p.0 ≡ q.0) × (lower p.1 q.1 ≡ true))

    -- what the relation tells
    tells : (p q : K × L) → over p q ≡ true → Over p q
    tells p q h = elim (cases_Bool (same p.0 q.0)) [
      | inl e ↦ inr ((decides p.0 q.0).0 e, sym (cond-true (same p.0 q.0) _ _ e) ∙ h)
      | inr e ↦ inl (sym (cond-false (same p.0 q.0) _ _ e) ∙ h)
    ]

    -- nothing is above itself
    never : (x : K) → upper x x ≢ true
    never x h = elim (r₁.one x x) [ is_first _ nb _ ↦ nb h | is_second na _ _ ↦ na h | is_third na _ _ ↦ na h ]

    -- where the relation holds
    holds : (p q : K × L) → Over p q → over p q ≡ true
    holds p q (inl u) = elim (cases_Bool (same p.0 q.0)) [
      | inl e ↦ absurd (never q.0 (rw ((decides p.0 q.0).0 e) at u))
      | inr e ↦ cond-false (same p.0 q.0) _ _ e ∙ u
    ]
    holds p q (inr l) = cond-true (same p.0 q.0) _ _ ((decides p.0 q.0).1 l.0) ∙ l.1

    -- where it does not
    fails : (p q : K × L) → ¬ (upper p.0 q.0 ≡ true) → ¬ ((p.0 ≡ q.0) × (lower p.1 q.1 ≡ true)) → ¬ (over p q ≡ true)
    fails p q nu nl h = ⊎_elim nu nl (tells p q h)

    -- law 1, where the first values are the same
    by_second : (p q : K × L) → p.0 ≡ q.0 → ¬ (upper p.0 q.0 ≡ true) → ¬ (upper q.0 p.0 ≡ true) → Ranks lower p.1 q.1 → Ranks over p q
    by_second p q e nu nv (is_first a nb nc) = is_first (holds p q (inr (e, a))) (fails q p nv (λ l. nb l.1)) (λ f. nc (λ i. (f i).1))
    by_second p q e nu nv (is_second na b nc) = is_second (fails p q nu (λ l. na l.1)) (holds q p (inr (sym e, b))) (λ f. nc (λ i. (f i).1))
    by_second p q e nu nv (is_third na nb c) = is_third (fails p q nu (λ l. na l.1)) (fails q p nv (λ l. nb l.1)) (λ i. (e i, c i))

    -- law 1
    by_first : (p q : K × L) → Ranks upper p.0 q.0 → Ranks over p q
    by_first p q (is_first a nb nc) = is_first (holds p q (inl a)) (fails q p nb (λ l. nc (sym l.0))) (λ f. nc (λ i. (f i).0))
    by_first p q (is_second na b nc) = is_second (fails p q na (λ l. nc l.0)) (holds q p (inl b)) (λ f. nc (λ i. (f i).0))
    by_first p q (is_third na nb c) = by_second p q c na nb (r₂.one p.1 q.1)

    -- law 2
    chained : (p q r : K × L) → Over p q → Over q r → Over p r
    chained p q r (inl u) (inl v) = inl (r₁.trans p.0 q.0 r.0 u v)
    chained p q r (inl u) (inr m) = inl (rw m.0 at u)
    chained p q r (inr l) (inl v) = inl (rw l.0 v)
    chained p q r (inr l) (inr m) = inr (l.0 ∙ m.0, r₂.trans p.1 q.1 r.1 l.1 m.1)

    -- the sum of two pairs
    abbrev sum : K × L → K × L → K × L
    sum p q = (sum₁ p.0 q.0, sum₂ p.1 q.1)

    -- law 3
    added : (p q w : K × L) → Over p q → Over (sum p w) (sum q w)
    added p q w (inl u) = inl (r₁.adds p.0 q.0 w.0 u)
    added p q w (inr l) = inr (ap (λ x. sum₁ x w.0) l.0, r₂.adds p.1 q.1 w.1 l.1)

    -- law 4
    lowest : (p : K × L) → ¬ (◌≡◌ {A = K × L} p (none₁, none₂)) → Over p (none₁, none₂)
    lowest p ne = elim (decided (same p.0 none₁) (decides p.0 none₁)) [
      | inl e ↦ inr (e, r₂.least p.1 (λ f. ne (λ i. (e i, f i))))
      | inr d ↦ inl (r₁.least p.0 d)
    ]

    -- law 5: a lexicographic product ends where both its parts do
    ended : (p : K × L) → Acc (λ q r. over r q ≡ true) p
    ended p =
        Subrelation.accessible (λ q r h. Prod.Lex-def.1 (⊎_elim Or.inl (λ l. Or.inr (sym l.0, l.1)) (tells r q h)))
        (Prod.lex_accessible (r₁.ends p.0) r₂.ends p.1)

    -- pairs keep the laws
    pub pairs : Ranking {K = K × L} (none₁, none₂) sum over
    pairs =
        record {
          one = λ p q. by_first p q (r₁.one p.0 q.0);
          trans = λ p q r h k. holds p r (chained p q r (tells p q h) (tells q r k));
          adds = λ p q w h. holds (sum p w) (sum q w) (added p q w (tells p q h));
          least = λ p ne. holds p (none₁, none₂) (lowest p ne);
          ends = ended;
        }
