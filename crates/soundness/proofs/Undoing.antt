-- Chains turned round.
use Rattle.std.proofs.Common.{◌≡◌, List, [], ◌∷◌, ◌++◌, ℤ, pos, neg_ℤ, sym, refl, ap, ◌∙◌, ap₂, append_assoc, append-nil}
use lib.IntN.{neg_ℤ-neg_ℤ}
use Rattle.tables.specs.Trails.{forward, undo}
use Rattle.questions.specs.declared.question.Bridge.{Bridge}
use Rattle.questions.specs.declared.question.Bridge.TheVariants.{Forward, Backward, Peak}
use Rattle.questions.specs.Questions.{turned_bridge}
use Rattle.questions.specs.Asking.{Parting, turned_parting}
use Rattle.completion.specs.Adding.{between, derived}

-- the last part first
undo-append : (xs ys : List ℤ) → undo (xs ++ ys) ≡ undo ys ++ undo xs
undo-append [] ys = sym (append-nil (undo ys))
undo-append (x ∷ xs) ys = ap (λ zs. zs ++ (neg_ℤ x ∷ [])) (undo-append xs ys) ∙ append_assoc (undo ys) (undo xs) (neg_ℤ x ∷ [])

-- turned round neg_ℤ-neg_ℤ
undo-undo : (xs : List ℤ) → undo (undo xs) ≡ xs
undo-undo [] = refl
undo-undo (x ∷ xs) = undo-append (undo xs) (neg_ℤ x ∷ []) ∙ ap₂ (λ (z : ℤ) (zs : List ℤ). z ∷ zs) (neg_ℤ-neg_ℤ x) (undo-undo xs)

undo-between : (b : Bridge) → undo (between b) ≡ between (turned_bridge b)
undo-between (Forward k) = refl
undo-between (Backward k) = ap (λ (z : ℤ). z ∷ []) (neg_ℤ-neg_ℤ (pos k))
undo-between (Peak i j) = ap (λ (z : ℤ). neg_ℤ (pos j) ∷ z ∷ []) (neg_ℤ-neg_ℤ (pos i))

-- the chain of a parting whose loads are changed over
pub undo-derived : (p : Parting) → undo (derived p).chain ≡ (derived (turned_parting p)).chain
undo-derived p =
    let f = forward p.first.trail in
    let g = forward p.second.trail in
    let b = between p.question.bridge in
    undo-append (undo f) (b ++ g)
    ∙ ap₂ (λ (x y : List ℤ). x ++ y) (undo-append b g ∙ ap (λ (x : List ℤ). undo g ++ x) (undo-between p.question.bridge)) (undo-undo f)
    ∙ append_assoc (undo g) (between (turned_bridge p.question.bridge)) f
