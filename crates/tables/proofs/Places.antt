-- The place of a rule.
use Rattle.std.proofs.Common.{◌≡◌, ℕ, suc, ◌+◌, Bool, true, false, not, List, [], ◌∷◌, length, Option, unwrap_or, refl, ap, ◌∙◌, arith}
use Rattle.std.specs.List.{insert, position, position_or_len}
use Rattle.std.proofs.lemmas.List.Sums.{prefix_len-le-length}
use Rattle.std.proofs.lemmas.Bool.Decides.{nat_tests}
use Rattle.orders.specs.Laws.{Relation}
use Rattle.worksheet.specs.declared.rule.Rule.{Rule}
use Rattle.tables.specs.Placing.{enter}

module _ (above : Relation) (r : Rule) where
  -- the left load of a rule is not below that of r
  abbrev pub stops : Rule → Bool
  stops q = not (above r.left q.left)

  -- r goes before the first such rule, or last
  enters : (t : List Rule) → insert t (position_or_len stops t) r ≡ enter above r t
  enters [] = refl
  enters (s ∷ t) = go (above r.left s.left) refl (enters t)
    where
      go : (b : Bool) → above r.left s.left ≡ b → insert t (position_or_len stops t) r ≡ enter above r t → insert (s ∷ t) (position_or_len stops (s ∷ t)) r ≡ enter above r (s ∷ t)
      go true e ih = let one : 1 + position_or_len stops t ≡ suc (position_or_len stops t) = omega arith in rw (e, enter, ← ih) (ap (λ n. insert (s ∷ t) n r) one)
      go false e ih = rw (e, enter)

  pub enters_at : (t : List Rule) (o : Option ℕ) (n : ℕ) → o ≡ position stops t → n ≡ unwrap_or o (length t) → insert t n r ≡ enter above r t
  enters_at t o n e q = let le = prefix_len-le-length (λ x. not (stops x)) t in ap (λ k. insert t k r) (grind (arith, nat_tests)) ∙ enters t
