-- Lines that take their chains from one row: what they take, and what they make up again.
use Rattle.std.proofs.Common.{◌≡◌, ℕ, ◌+◌, ◌-◌, true, List, [], ◌∷◌, ◌++◌, map, length, take, drop, ℤ, Ok, refl, ap, ◌∙◌, ap₂, arith, length-append, length-drop, length-take}
use Rattle.std.specs.List.{AllByRecursion as All}
use Rattle.std.proofs.lemmas.List.{take_at, drop_at, take-append-drop}
use Rattle.std.proofs.lemmas.Bool.{eqb-true, leb-true, le-leb}
use Rattle.loads.specs.Tests.{fits}
use Rattle.worksheet.specs.declared.equation.Equation.{Equation}
use Rattle.worksheet.specs.declared.line.Line.{Line}
use Rattle.worksheet.specs.Claims.{claims}
use Rattle.worksheet.specs.Derivations.{Derivation, derivations}
use Rattle.soundness.specs.Sheets.{lines}
use Rattle.soundness.proofs.Answering.{went, goes, checked, passes}
use Rattle.adoption.specs.declared.fault.WorksheetFault.TheVariants.{TooHigh}
use Rattle.adoption.specs.Worksheets.{even_chains}
use Rattle.adoption.specs.Adopting.{line_of, all_chains}
use Rattle.adoption.specs.Theorems.{SmallLines}

-- the lines and the row, made up again from the lines with their chains
pub record Remade (ls : List Line) (zs : List ℤ) : Type 0 where
  pub lines : map line_of (derivations ls zs) ≡ ls
  pub chain : all_chains (derivations ls zs) ≡ zs

abbrev as_line : Equation → ℕ → Line
as_line e n = record { claim = e; length = n }

empty-row : (zs : List ℤ) → length zs ≡ 0 → [] ≡ zs
empty-row [] h = refl
empty-row (z ∷ zs) h = absurd (omega arith)

-- lines that take all the numbers are remade
pub even_so : (n : ℕ) (ls : List Line) (zs : List ℤ) (u : Unit {0}) → even_chains n ls (length zs) ≡ Ok u → Remade ls zs
even_so n [] zs u h = record { lines = refl; chain = empty-row zs (eqb-true (length zs) 0 (checked _ _ _ h)) }
even_so n (l ∷ ls) zs u h =
    let f = went _ _ _ h in
    let k = leb-true l.length (length zs) (checked _ _ _ f.first) in
    let ih = even_so (n + 1) ls (drop l.length zs) u (rw (length-drop l.length zs) f.then) in
    let long : length (take l.length zs) ≡ l.length = omega (arith, length-take l.length zs) in
    record {
      lines = ap₂ ◌∷◌ (ap (as_line l.claim) long) ih.lines;
      chain = ap (λ ys. take l.length zs ++ ys) ih.chain ∙ take-append-drop l.length zs;
    }

-- the chains of lines one after another, dealt to them again
module _ (d : Derivation) (ds : List Derivation) where
  abbrev row : List ℤ
  row = d.chain ++ all_chains ds

  pub row_taken : take (length d.chain) row ≡ d.chain
  row_taken = take_at d.chain (all_chains ds) (length d.chain) refl

  pub row-left : drop (length d.chain) row ≡ all_chains ds
  row-left = drop_at d.chain (all_chains ds) (length d.chain) refl

pub so_even : (n : ℕ) (ds : List Derivation) → even_chains n (map line_of ds) (length (all_chains ds)) ≡ Ok tt
so_even n [] = refl
so_even n (d ∷ ds) =
    let k = length-append d.chain (all_chains ds) in
    let left : length (d.chain ++ all_chains ds) - length d.chain ≡ length (all_chains ds) = omega arith in
    goes _ (passes (TooHigh n) (le-leb (length d.chain) (length (d.chain ++ all_chains ds)) (omega arith))) (rw left (so_even (n + 1) ds))

abbrev derivation : Equation → List ℤ → Derivation
derivation e zs = record { claim = e; chain = zs }

pub so_derived : (ds : List Derivation) → derivations (map line_of ds) (all_chains ds) ≡ ds
so_derived [] = refl
so_derived (d ∷ ds) =
    ap₂ (λ (c : List ℤ) (es : List Derivation). derivation d.claim c ∷ es) (row_taken d ds) (ap (derivations (map line_of ds)) (row-left d ds) ∙ so_derived ds)

-- the lines claim the same with their chains and without
pub derived-claims : (ls : List Line) (zs : List ℤ) → map (λ (d : Derivation). d.claim) (derivations ls zs) ≡ map (λ (l : Line). l.claim) ls
derived-claims [] zs = refl
derived-claims (l ∷ ls) zs = ap (λ es. l.claim ∷ es) (derived-claims ls (drop l.length zs))

pub same_claims : (book : List Equation) (ls : List Line) (zs : List ℤ) → lines book (derivations ls zs) ≡ claims book ls
same_claims book ls zs = ap (λ es. book ++ es) (derived-claims ls zs)

-- so the code can hold their left loads
pub derived_small : (ls : List Line) (zs : List ℤ) → SmallLines ls → All (λ (d : Derivation). fits d.claim.left ≡ true) (derivations ls zs)
derived_small [] zs h = tt
derived_small (l ∷ ls) zs h = (h.0.0, derived_small ls (drop l.length zs) h.1)
