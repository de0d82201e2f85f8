-- Added lines with their chains, as the rows hold them.
use Rattle.std.proofs.Common.{◌≡◌, suc, ◌+◌, ◌≤◌, List, [], ◌∷◌, ◌++◌, length, take, drop, ℤ, refl, ap, ◌∙◌, ap₂, arith, length-drop, length-take}
use Rattle.std.proofs.lemmas.List.{take-append-le, drop-append-le, take_all}
use Rattle.std.proofs.lemmas.List.Sums.{sum_by-cons, sum_by_push}
use Rattle.worksheet.specs.declared.line.Line.{Line}
use Rattle.worksheet.specs.Derivations.{Derivation, derivations, lengths}
use Rattle.completion.specs.Room.{numbers}

-- as many derivations as lines
pub derivations-length : (ls : List Line) (row : List ℤ) → length (derivations ls row) ≡ length ls
derivations-length [] row = refl
derivations-length (l ∷ ls) row = ap suc (derivations-length ls (drop l.length row))

lengths-cons : (l : Line) (ls : List Line) → lengths (l ∷ ls) ≡ l.length + lengths ls
lengths-cons l ls = sum_by-cons (λ (x : Line). x.length) l ls

numbers-cons : (d : Derivation) (ds : List Derivation) → numbers (d ∷ ds) ≡ length d.chain + numbers ds
numbers-cons d ds = sum_by-cons (λ (x : Derivation). length x.chain) d ds

pub lengths-push : (ls : List Line) (l : Line) → lengths (ls ++ l ∷ []) ≡ lengths ls + l.length
lengths-push ls l = sum_by_push (λ (x : Line). x.length) ls l

-- with the same numbers
pub derivations-numbers : (ls : List Line) (row : List ℤ) → lengths ls ≤ length row → numbers (derivations ls row) ≡ lengths ls
derivations-numbers [] row h = refl
derivations-numbers (l ∷ ls) row h =
    let c = lengths-cons l ls in
    let ih = derivations-numbers ls (drop l.length row) (simp length-drop (omega arith)) in
    numbers-cons (record { claim = l.claim; chain = take l.length row }) (derivations ls (drop l.length row)) ∙ omega (arith, length-take l.length row)

-- one line more, whose numbers come after the others
pub derivations_more : (ls : List Line) (l : Line) (row c : List ℤ) → lengths ls ≡ length row → l.length ≡ length c
    → derivations (ls ++ l ∷ []) (row ++ c) ≡ derivations ls row ++ record { claim = l.claim; chain = c } ∷ []
derivations_more [] l [] c h k = ap (λ z. record { claim = l.claim; chain = z } ∷ []) (take_all l.length c (omega arith))
derivations_more [] l (z ∷ row) c h k = absurd (omega arith)
derivations_more (m ∷ ls) l row c h k =
    let e = lengths-cons m ls in
    let le : m.length ≤ length row = omega arith in
    let ih = derivations_more ls l (drop m.length row) c (simp length-drop (omega arith)) k in
    ap₂ (λ x y. record { claim = m.claim; chain = x } ∷ derivations (ls ++ l ∷ []) y) (take-append-le m.length row c le) (drop-append-le m.length row c le)
    ∙ ap (λ x. record { claim = m.claim; chain = take m.length row } ∷ x) ih
