-- What the conditions on equations and lines come to, and that they are met.
use Rattle.std.proofs.Common.{◌≡◌, ℕ, ◌+◌, true, eqb, List, [], ◌∷◌, ◌++◌, length, Ok, refl, ap, ◌∙◌, ap₂}
use Rattle.std.specs.List.{AllByRecursion as All}
use Rattle.std.proofs.lemmas.Bool.{and_parts, and_from, eq-eqb}
use Rattle.loads.specs.declared.Load.{Load}
use Rattle.loads.specs.Answers.{check}
use Rattle.loads.specs.Tests.{alike, fits}
use Rattle.loads.proofs.Deciding.{alike_decides}
use Rattle.worksheet.specs.declared.equation.Equation.{Equation}
use Rattle.worksheet.specs.Derivations.{Derivation}
use Rattle.soundness.specs.Sheets.{LinesReplay}
use Rattle.soundness.proofs.Answering.{err_not_ok, went, goes, checked, passes, unmarked, marks}
use Rattle.adoption.specs.declared.fault.WorksheetFault.TheVariants.{OtherCount, Differs, Replay, Elsewhere}
use Rattle.adoption.specs.Worksheets.{same_sides, agree, own_equations, line_replays, lines_replay}

abbrev of_sides : Load → Load → Equation
of_sides l r = record { left = l; right = r }

-- equations with the same sides are the same
pub same_so : (d e : Equation) → same_sides d e ≡ true → d ≡ e
same_so d e h =
    let p = and_parts (alike d.left e.left) (alike d.right e.right) h in
    ap₂ of_sides ((alike_decides d.left e.left).0 p.0) ((alike_decides d.right e.right).0 p.1)

alike_self : (a : Load) → alike a a ≡ true
alike_self a = (alike_decides a a).1 refl

pub so_same : (e : Equation) → same_sides e e ≡ true
so_same e = and_from (alike e.left e.left) (alike e.right e.right) (alike_self e.left) (alike_self e.right)

-- equations that agree are the register's own
agree_so : (k : ℕ) (own file : List Equation) (u : Unit {0}) → agree k own file ≡ Ok u → own ≡ file
agree_so k [] [] u h = refl
agree_so k [] (e ∷ file) u h = absurd (err_not_ok h)
agree_so k (d ∷ own) [] u h = absurd (err_not_ok h)
agree_so k (d ∷ own) (e ∷ file) u h = let f = went _ _ _ h in ap₂ ◌∷◌ (same_so d e (checked _ _ _ f.first)) (agree_so (k + 1) own file u f.then)

so_agree : (k : ℕ) (own : List Equation) → agree k own own ≡ Ok tt
so_agree k [] = refl
so_agree k (d ∷ own) = goes _ (passes (Differs k) (so_same d)) (so_agree (k + 1) own)

pub own_so : (own file : List Equation) (u : Unit {0}) → own_equations own file ≡ Ok u → own ≡ file
own_so own file u h = let f = went (check (eqb (length own) (length file)) OtherCount) (λ _. agree 1 own file) u h in agree_so 1 own file u f.then

pub so_own : (own : List Equation) → own_equations own own ≡ Ok tt
so_own own = goes _ (passes OtherCount (eq-eqb (length own) (length own) refl)) (so_agree 1 own)

-- every line replays
pub lines_so : (known : List Equation) (ds : List Derivation) (u : Unit {0}) → All (λ (d : Derivation). fits d.claim.left ≡ true) ds → lines_replay known ds ≡ Ok u
    → LinesReplay known ds
lines_so known [] u s h = tt
lines_so known (d ∷ ds) u s h =
    let f = went (line_replays known d) _ _ h in
    let g = went _ _ _ f.first in
    let end = (alike_decides g.got d.claim.right).0 (checked _ _ _ g.then) in
    (unmarked _ _ _ g.first ∙ ap Ok end, s.0, lines_so (known ++ (d.claim ∷ [])) ds u s.1 f.then)

pub so_lines : (known : List Equation) (ds : List Derivation) → LinesReplay known ds → lines_replay known ds ≡ Ok tt
so_lines known [] r = refl
so_lines known (d ∷ ds) r =
    goes _ (goes _ (marks (Replay (length known + 1)) r.0) (passes (Elsewhere (length known + 1)) (alike_self d.claim.right)))
    (so_lines (known ++ (d.claim ∷ [])) ds r.2)
