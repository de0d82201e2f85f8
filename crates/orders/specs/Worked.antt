-- Worked comparisons.
use Rattle.std.specs.Prelude.{◌≡◌, ℕ, [], ◌∷◌}
use Rattle.std.specs.declared.cmp.Ordering.TheVariants.{Less, Greater}
use Rattle.loads.specs.declared.Load.{Load}
use Rattle.loads.specs.Loads.{of_counts}
use Rattle.orders.specs.Laws.{Relation}
use Rattle.orders.specs.Comparing.{answer}

-- a load by its counts of the first three articles, a, b and c
abbrev pub abc : ℕ → ℕ → ℕ → Load
abc a b c = of_counts (a ∷ b ∷ c ∷ [])

-- by the report order bc is above c², and ac above b²; by bulk and by the house order ac is below b²
abbrev pub Worked : (report bulk house : Relation) → Type 0
Worked report bulk house =
    (answer report (abc 0 1 1) (abc 0 0 2) ≡ Greater)
    × (answer report (abc 1 0 1) (abc 0 2 0) ≡ Greater)
    × (answer bulk (abc 1 0 1) (abc 0 2 0) ≡ Less)
    × (answer house (abc 1 0 1) (abc 0 2 0) ≡ Less)
