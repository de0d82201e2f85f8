-- Equations compared two by two: the first pair that differs is what is told.
use Rattle.std.proofs.Common.{◌≡◌, ℕ, ◌+◌, Bool, not, ◌&&◌, eqb, List, [], ◌∷◌, length, zip, Some, None, Ok, Err, Option, Result, refl, ap, ap₂, ◌∙◌, arith}
use lib.Pointwise.{pointwise}
use Rattle.std.specs.List.{position_from}
use Rattle.std.proofs.lemmas.Bool.{eq-eqb}
use Rattle.loads.proofs.Deciding.{same-alike}
use Rattle.worksheet.specs.declared.equation.Equation.{Equation}
use Rattle.adoption.specs.declared.fault.WorksheetFault.{WorksheetFault}
use Rattle.adoption.specs.declared.fault.WorksheetFault.TheVariants.{Differs}
use Rattle.adoption.specs.Worksheets.{same_sides, agree, own_equations}

-- `==` of two equations, as it is derived
abbrev pub equal : Equation → Equation → Bool
equal d e =
    (pointwise eqb d.left.counts e.left.counts && eqb d.left.presence e.left.presence)
    && (pointwise eqb d.right.counts e.right.counts && eqb d.right.presence e.right.presence)

same_equal : (d e : Equation) → equal d e ≡ same_sides d e
same_equal d e = ap₂ (λ a b. a && b) (same-alike d.left e.left) (same-alike d.right e.right)

-- the place of a pair that differs, counted from 0, as a fault
abbrev pub differing : Option ℕ → Result (Unit {0}) WorksheetFault
differing None = Ok tt
differing (Some i) = Err (Differs (i + 1))

differ_from : (i : ℕ) (own file : List Equation) → length own ≡ length file
    → differing (position_from (λ (p : Equation × Equation). not (same_sides p.0 p.1)) i (zip own file)) ≡ agree (i + 1) own file
differ_from i [] [] h = refl
differ_from i [] (e ∷ file) h = absurd (omega (arith, h))
differ_from i (d ∷ own) [] h = absurd (omega (arith, h))
differ_from i (d ∷ own) (e ∷ file) h = let ih = differ_from (i + 1) own file (omega (arith, h)) in grind arith

-- the first pair that differs says whether a file has the register's own equations
pub differ_own : (own file : List Equation) → length own ≡ length file
    → differing (position_from (λ (p : Equation × Equation). not (equal p.0 p.1)) 0 (zip own file)) ≡ own_equations own file
differ_own own file h =
    ap (λ (t : Equation × Equation → Bool). differing (position_from t 0 (zip own file))) (λ i p. not (same_equal p.0 p.1 i))
    ∙ differ_from 0 own file h
    ∙ rw (eq-eqb _ _ h)
