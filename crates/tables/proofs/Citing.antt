-- Line numbers that can be cited, through every change of a table.
use Rattle.std.proofs.Common.{◌≡◌, ℕ, zero, suc, ◌<◌, ◌≤◌, true, not, leb, List, [], ◌∷◌, length, get_or, set, refl, arith}
use Rattle.std.proofs.lemmas.Bool.{and_parts, and_from, leb-true, le-leb, cond_both}
use Rattle.loads.specs.declared.Load.{Load}
use Rattle.loads.specs.Tests.{contains}
use Rattle.orders.specs.Laws.{Relation}
use Rattle.worksheet.specs.declared.rule.Rule.{Rule}
use Rattle.tables.specs.Citing.{citable}
use Rattle.tables.specs.Placing.{without, enter}

-- the first rule, and the rest
pub citable_parts : (r : Rule) (t : List Rule) → citable (r ∷ t) ≡ true → (r.line ≤ 544) × (citable t ≡ true)
citable_parts r t h = let p = and_parts (leb r.line 544) (citable t) h in (leb-true r.line 544 p.0, p.1)

pub citable_from : (r : Rule) (t : List Rule) → r.line ≤ 544 → citable t ≡ true → citable (r ∷ t) ≡ true
citable_from r t l h = and_from (leb r.line 544) (citable t) (le-leb r.line 544 l) h

-- a rule of the table
pub citable-at : (t : List Rule) (i : ℕ) (r : Rule) → i < length t → r ≡ get_or t i r → citable t ≡ true → r.line ≤ 544
citable-at [] i r h e c = absurd (omega arith)
citable-at (s ∷ t) zero r h e c = rw e (citable_parts s t c).0
citable-at (s ∷ t) (suc i) r h e c = citable-at t i r (omega arith) e (citable_parts s t c).1

-- some rules removed
pub citable-without : (l : Load) (t : List Rule) → citable t ≡ true → citable (without l t) ≡ true
citable-without l [] c = refl
citable-without l (r ∷ t) c =
    let p = citable_parts r t c in
    let ih = citable-without l t p.1 in
    cond_both (not (contains r.left l)) (r ∷ without l t) (without l t) (λ (u : List Rule). citable u ≡ true) (λ _. citable_from r (without l t) p.0 ih) (λ _. ih)

-- a rule more
pub citable-enter : (above : Relation) (r : Rule) (t : List Rule) → r.line ≤ 544 → citable t ≡ true → citable (enter above r t) ≡ true
citable-enter above r [] l c = citable_from r [] l refl
citable-enter above r (s ∷ t) l c =
    let p = citable_parts s t c in
    cond_both (above r.left s.left) (s ∷ enter above r t) (r ∷ s ∷ t) (λ (u : List Rule). citable u ≡ true)
    (λ _. citable_from s (enter above r t) p.0 (citable-enter above r t l p.1)) (λ _. citable_from r (s ∷ t) l c)

-- a rule in the place of another
pub citable-set : (t : List Rule) (i : ℕ) (r : Rule) → r.line ≤ 544 → citable t ≡ true → citable (set t i r) ≡ true
citable-set [] i r l c = refl
citable-set (s ∷ t) zero r l c = citable_from r t l (citable_parts s t c).1
citable-set (s ∷ t) (suc i) r l c = let p = citable_parts s t c in citable_from s (set t i r) p.0 (citable-set t i r l p.1)
