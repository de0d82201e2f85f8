-- What a round asks about, in its order.
use Rattle.std.specs.Prelude.{ℕ, ◌+◌, true, false, List, [], ◌∷◌, ◌++◌}
use Rattle.loads.specs.Tests.{shares}
use Rattle.worksheet.specs.declared.equation.Equation.{Equation}
use Rattle.worksheet.specs.declared.rule.Rule.{Rule}

-- the equation with number k; or the peak of the rules r and s at the places i and j, the smallest load that contains both left loads
pub data Topic : Type 0 where
  entry : (k : ℕ) (e : Equation) → Topic
  peak : (i : ℕ) (r : Rule) (j : ℕ) (s : Rule) → Topic

-- the equations in entry order, the first of them with number k
abbrev pub entries : ℕ → List Equation → List Topic
entries k [] = []
entries k (e ∷ es) = entry k e ∷ entries (k + 1) es

-- the rule r of place i with each rule from place j on whose left load shares an article with its own
abbrev pub peaks_with : ℕ → Rule → ℕ → List Rule → List Topic
peaks_with i r j [] = []
peaks_with i r j (s ∷ t) = elim (shares r.left s.left) [ true ↦ peak i r j s ∷ peaks_with i r (j + 1) t | false ↦ peaks_with i r (j + 1) t ]

-- the pairs of places i < j, by i and then j, whose left loads share an article; the first rule has place i
abbrev pub peaks : ℕ → List Rule → List Topic
peaks i [] = []
peaks i (r ∷ t) = peaks_with i r (i + 1) t ++ peaks (i + 1) t

-- the equations, then the pairs of the table
abbrev pub topics : List Equation → List Rule → List Topic
topics book t = entries 1 book ++ peaks 1 t
