-- Rows of numbers, one for each place of a list, compared at the first that differs.
use Rattle.std.specs.Prelude.{◌≡◌, ℕ, ◌+◌, Bool, false, List, [], ◌∷◌, nat_eq, refl}
use mathlib.Core.WellFounded.Acc
use Rattle.std.specs.List.{AllByRecursion}
use Rattle.std.proofs.lemmas.Bool.{false≢true}
use Rattle.std.proofs.lemmas.Bool.Decides.{Decides-eqb}
use Rattle.orders.specs.Laws.{is_third}
use Rattle.orders.specs.Pairs.{paired, pairs}
use Rattle.orders.specs.Rankings.{Ranking, larger, numbers}

-- a number for each place
abbrev pub Row : List ℕ → Type 0
Row [] = Unit {0}
Row (p ∷ ps) = ℕ × Row ps

-- the row of f's numbers
abbrev pub row : (ps : List ℕ) → (ℕ → ℕ) → Row ps
row [] f = tt
row (p ∷ ps) f = (f p, row ps f)

-- the sum of two rows
abbrev pub row_plus : (ps : List ℕ) → Row ps → Row ps → Row ps
row_plus [] r s = tt
row_plus (p ∷ ps) r s = (r.0 + s.0, row_plus ps r.1 s.1)

-- at the first place that differs, the larger number is above
abbrev pub row_above : (ps : List ℕ) → Row ps → Row ps → Bool
row_above [] r s = false
row_above (p ∷ ps) r s = paired nat_eq larger (row_above ps) r s

-- rows keep the laws
pub rows : (ps : List ℕ) → Ranking (row ps (λ _. 0)) (row_plus ps) (row_above ps)
rows [] =
    record {
      one = λ r s. is_third false≢true false≢true refl;
      trans = λ q r s h k. h;
      adds = λ r s w h. h;
      least = λ r ne. absurd (ne refl);
      ends = λ r. Acc.intro r (λ s h. absurd (false≢true h));
    }
rows (p ∷ ps) = pairs nat_eq Decides-eqb numbers (rows ps)

-- rows of the same numbers
pub row_like : (ps : List ℕ) {f g : ℕ → ℕ} → ((p : ℕ) → f p ≡ g p) → row ps f ≡ row ps g
row_like [] h = refl
row_like (p ∷ ps) h = λ i. (h p i, row_like ps h i)

-- a row of sums
pub row_sum : (ps : List ℕ) (f g : ℕ → ℕ) → row ps (λ p. f p + g p) ≡ row_plus ps (row ps f) (row ps g)
row_sum [] f g = refl
row_sum (p ∷ ps) f g = λ i. (f p + g p, row_sum ps f g i)

-- equal rows have equal numbers
pub row_told : (ps : List ℕ) (f g : ℕ → ℕ) → row ps f ≡ row ps g → AllByRecursion (λ p. f p ≡ g p) ps
row_told [] f g e = tt
row_told (p ∷ ps) f g e = ((λ i. (e i).0), row_told ps f g (λ i. (e i).1))
