-- The rows of a register and what it shows.
use Rattle.std.proofs.Common.{◌≡◌, ℕ, zero, suc, ◌-◌, ◌<◌, Bool, true, false, List, [], ◌∷◌, ◌++◌, map, length, drop, ℤ, sym, refl, ap, ◌∙◌, arith}
use Rattle.worksheet.specs.declared.equation.Equation.{Equation}
use Rattle.worksheet.specs.declared.line.Line.{Line}
use Rattle.worksheet.specs.Claims.{nth, claims}
use Rattle.worksheet.specs.Derivations.{Derivation, derivations}
use Rattle.completion.specs.States.{held, lines_of as added-lines}
use Rattle.register.specs.declared.register.Register.{Register}
use Rattle.register.specs.Contents.{Contents, added_in, lines_of, claim_at}
use Rattle.register.specs.View.{view}

-- a row without a length
none_long : {X : Type 0} (xs : List X) → length xs ≡ 0 → xs ≡ []
none_long [] e = refl
none_long (x ∷ xs) e = absurd (omega arith)

module _ (g : Register) where
  -- an open register has no added lines, and shows none
  pub added-shown : added_in (view g).sheet ≡ (held g.workings).added
  added-shown = go g.settled refl
    where
      go : (b : Bool) → g.settled ≡ b → added_in (view g).sheet ≡ (held g.workings).added
      go true e = rw e refl
      go false e = rw e (sym (none_long (held g.workings).added (g.bare e).1))

-- a line claims the same with its chain and without it
claims_kept : (ls : List Line) (zs : List ℤ) → map (λ (d : Derivation). d.claim) (derivations ls zs) ≡ map (λ (l : Line). l.claim) ls
claims_kept [] zs = refl
claims_kept (l ∷ ls) zs = ap (λ x. l.claim ∷ x) (claims_kept ls (drop l.length zs))

-- the lines of a register are those of its rows
pub lines-shown : (g : Register) (book : List Equation) (ls : List Line) → book ≡ g.book → ls ≡ added-lines g.workings → lines_of (view g) ≡ claims book ls
lines-shown g book ls p q =
    ap (λ (ds : List Derivation). g.book ++ map (λ (d : Derivation). d.claim) ds) (added-shown g)
    ∙ ap (λ x. g.book ++ x) (claims_kept (added-lines g.workings) _)
    ∙ (λ i. claims (sym p i) (sym q i))

-- the claim with a number above 0
pub claim_numbered : (c : Contents) (n : ℕ) → 0 < n → claim_at c n ≡ nth (lines_of c) (n - 1)
claim_numbered c zero h = absurd (omega arith)
claim_numbered c (suc k) h = ap (nth (lines_of c)) (omega arith)
