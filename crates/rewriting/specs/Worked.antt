-- Worked reductions, and a table that meets every condition.
use Rattle.std.specs.Prelude.{◌≡◌, ℕ, List, [], ◌∷◌, Ok, Err}
use Rattle.loads.specs.declared.Load.{Load}
use Rattle.orders.specs.Named.{report_above}
use Rattle.orders.specs.Worked.{abc}
use Rattle.worksheet.specs.declared.equation.Equation.{Equation}
use Rattle.worksheet.specs.declared.rule.Rule.{Rule}
use Rattle.rewriting.specs.declared.reduce.StepFault.TheVariants.{Spent, Overflow}
use Rattle.rewriting.specs.Reducing.{reduce}
use Rattle.rewriting.specs.Settled.{Settled}

-- a rule by its two loads and its line
abbrev pub rule : Load → Load → ℕ → Rule
rule l r n = record { left = l; right = r; line = n }

-- bc → c², a²c → c³, a²b → c, c⁴ → c², ac³ → ac
abbrev pub five : List Rule
five = rule (abc 0 1 1) (abc 0 0 2) 3 ∷ rule (abc 2 0 1) (abc 0 0 3) 6 ∷ rule (abc 2 1 0) (abc 0 0 1) 2 ∷ rule (abc 0 0 4) (abc 0 0 2) 8 ∷ rule (abc 1 0 3) (abc 1 0 1) 10 ∷ []

-- a → b⁴⁰⁰⁰⁰
abbrev pub wide : List Rule
wide = rule (abc 1 0 0) (abc 0 40000 0) 1 ∷ []

-- a²b³c² and bc² are both c³ in the end, by six steps and by one; with a step less the budget is spent; and b⁸⁰⁰⁰⁰ is no load,
-- which is seen only once the budget allows the step
abbrev pub Reductions : Type 0
Reductions =
    (reduce five 6 (abc 2 3 2) ≡ Ok (record { end = abc 0 0 3; trail = 3 ∷ 3 ∷ 3 ∷ 6 ∷ 8 ∷ 8 ∷ [] }))
    × (reduce five 1 (abc 0 1 2) ≡ Ok (record { end = abc 0 0 3; trail = 3 ∷ [] }))
    × (reduce five 5 (abc 2 3 2) ≡ Err Spent)
    × (reduce wide 1 (abc 2 0 0) ≡ Err Spent)
    × (reduce wide 2 (abc 2 0 0) ≡ Err Overflow)

-- a² = b
abbrev pub double : Equation
double = record { left = abc 2 0 0; right = abc 0 1 0 }

-- its one rule is settled
abbrev pub SettledTable : Type 0
SettledTable = Settled report_above (double ∷ []) (double ∷ [])
