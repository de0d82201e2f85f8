-- The chain of each line in the row of all chain numbers.
use Rattle.std.proofs.Common.{◌≡◌, ℕ, zero, suc, ◌+◌, ◌-◌, ◌<◌, ◌≤◌, List, [], ◌∷◌, length, get_or, take, drop, ℤ, Some, None, sym, refl, ap, ◌∙◌, ap₂, arith, drop-drop}
use Rattle.std.specs.Option.{option_map}
use Rattle.std.proofs.lemmas.List.Sums.{sum_by-cons}
use Rattle.worksheet.specs.declared.line.Line.{Line}
use Rattle.worksheet.specs.Claims.{nth}
use Rattle.worksheet.specs.Derivations.{Derivation, derivations, lengths}
use Rattle.worksheet.proofs.Numbering.{nth-none}
use Rattle.completion.proofs.Deriving.{derivations-length}

-- a line's chain begins after those of the lines before it
derivation_at : (ls : List Line) (zs : List ℤ) (k : ℕ) (d : Line) → k < length ls
    → nth (derivations ls zs) k ≡ Some (record { claim = (get_or ls k d).claim; chain = take (get_or ls k d).length (drop (lengths (take k ls)) zs) })
derivation_at [] zs k d h = absurd (omega arith)
derivation_at (l ∷ ls) zs zero d h = refl
derivation_at (l ∷ ls) zs (suc k) d h =
    derivation_at ls (drop l.length zs) k d (omega arith)
    ∙ ap (λ x. Some (record { claim = (get_or ls k d).claim; chain = take (get_or ls k d).length x }))
    (drop-drop (lengths (take k ls)) l.length zs ∙ ap (λ n. drop n zs) (sym (sum_by-cons (λ (x : Line). x.length) l (take k ls))))

module _ (ls : List Line) (i : ℕ) (l : Line) (h : i < length ls) (is : l ≡ get_or ls i l) where
  -- the line's own numbers, as the code cuts them out
  pub own_chain : (zs row : List ℤ) (start : ℕ) → start ≡ lengths (take i ls) → row ≡ zs
      → Some (take (start + l.length - start) (drop start row)) ≡ option_map (λ (d : Derivation). d.chain) (nth (derivations ls zs) i)
  own_chain zs row start from same =
      let many : start + l.length - start ≡ l.length = omega arith in
      ap (λ j. Some (take j (drop start row))) many
      ∙ ap₂ (λ j ys. Some (take l.length (drop j ys))) from same
      ∙ ap (λ (x : Line). Some (take x.length (drop (lengths (take i ls)) zs))) is
      ∙ sym (ap (option_map (λ (d : Derivation). d.chain)) (derivation_at ls zs i l h))

-- past the last line there is none
pub no_chain : (ls : List Line) (zs : List ℤ) (i : ℕ) → length ls ≤ i → option_map (λ (d : Derivation). d.chain) (nth (derivations ls zs) i) ≡ None
no_chain ls zs i h = ap (option_map (λ (d : Derivation). d.chain)) (nth-none (derivations ls zs) i (omega (arith, derivations-length ls zs)))
