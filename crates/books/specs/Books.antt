-- Books that are worked out.
use Rattle.std.specs.Prelude.{◌≡◌, ℕ, true, List, [], ◌∷◌, map, pos, negsuc, Some}
use Rattle.loads.specs.declared.Load.{Load}
use Rattle.loads.specs.Loads.{of_counts}
use Rattle.orders.specs.Laws.{Relation}
use Rattle.orders.specs.Relations.{listed, bulk}
use Rattle.orders.specs.Named.{report_above}
use Rattle.worksheet.specs.declared.equation.Equation.{Equation}
use Rattle.rewriting.specs.Swaps.{equations}
use Rattle.completion.specs.States.{State}
use Rattle.completion.specs.Adding.{rule_of}
use Rattle.refusals.specs.declared.Part.TheVariants as part
use Rattle.refusals.specs.declared.Part.TheVariants.{Step, Adding}
use Rattle.refusals.specs.Refusals.{plain}
use Rattle.register.specs.Contents.{Contents, new, rules_in}
use Rattle.register.specs.Matching.{equal, different}
use Rattle.register.specs.Calls.{Enter, Settle, Standard, Match, Replay, Reply, Counted, Reduced, Matched, Refused, perform, after_calls}

-- a load by its counts of the articles a, b, c and d
abbrev pub abcd : ℕ → ℕ → ℕ → ℕ → Load
abcd a b c d = of_counts (a ∷ b ∷ c ∷ d ∷ 0 ∷ 0 ∷ 0 ∷ 0 ∷ [])

infix 5 ◌is◌
-- an equation, or a rule without its line
abbrev pub ◌is◌ : Load → Load → Equation
◌is◌ x y = record { left = x; right = y }

-- a register with this book, and the same settled
abbrev pub opened : List Equation → Contents
opened book = after_calls new (map Enter book)

abbrev pub settled_by : List Equation → Relation → (capacity budget : ℕ) → Contents
settled_by book above capacity budget = (perform (opened book) (Settle above capacity budget)).contents

-- the reply to a settle of this book
abbrev pub settling : List Equation → Relation → (capacity budget : ℕ) → Reply
settling book above capacity budget = (perform (opened book) (Settle above capacity budget)).reply

-- the rules of a register without their lines
abbrev pub rules_of : Contents → List Equation
rules_of c = equations (rules_in c.sheet)

-- ac = abc², a²b = c, bc = c²
abbrev pub three : List Equation
three = (abcd 1 0 1 0 is abcd 1 1 2 0) ∷ (abcd 2 1 0 0 is abcd 0 0 1 0) ∷ (abcd 0 1 1 0 is abcd 0 0 2 0) ∷ []

-- bc → c², a²c → c³, a²b → c, c⁴ → c², ac³ → ac
abbrev pub three_rules : List Equation
three_rules =
    (abcd 0 1 1 0 is abcd 0 0 2 0)
    ∷ (abcd 2 0 1 0 is abcd 0 0 3 0)
    ∷ (abcd 2 1 0 0 is abcd 0 0 1 0)
    ∷ (abcd 0 0 4 0 is abcd 0 0 2 0)
    ∷ (abcd 1 0 3 0 is abcd 1 0 1 0)
    ∷ []

-- a = b⁴⁰⁰⁰⁰
abbrev pub wide : List Equation
wide = (abcd 1 0 0 0 is abcd 0 40000 0 0) ∷ []

-- b² = bc, c² = b²
abbrev pub two : List Equation
two = (abcd 0 2 0 0 is abcd 0 1 1 0) ∷ (abcd 0 0 2 0 is abcd 0 2 0 0) ∷ []

-- bc → c², b² → c²: the right load of the second rule was bc, and is changed in a round of its own
abbrev pub two_settled : State
two_settled = record {
  table = rule_of (abcd 0 1 1 0 is abcd 0 0 2 0) 4 ∷ rule_of (abcd 0 2 0 0 is abcd 0 0 2 0) 5 ∷ [];
  added =
      record { claim = abcd 0 2 0 0 is abcd 0 1 1 0; chain = pos 1 ∷ [] }
      ∷ record { claim = abcd 0 1 1 0 is abcd 0 0 2 0; chain = negsuc 2 ∷ negsuc 1 ∷ [] }
      ∷ record { claim = abcd 0 2 0 0 is abcd 0 0 2 0; chain = pos 3 ∷ pos 4 ∷ [] }
      ∷ [];
}

-- a²b⁴c⁵d³ = ab³c²d², a⁸bc³d⁴ = ab⁸c⁴d², a²b²c²d² = c²d, ab⁸c³ = b²d³, a⁷d⁷ = c⁸
abbrev pub five : List Equation
five =
    (abcd 2 4 5 3 is abcd 1 3 2 2)
    ∷ (abcd 8 1 3 4 is abcd 1 8 4 2)
    ∷ (abcd 2 2 2 2 is abcd 0 0 2 1)
    ∷ (abcd 1 8 3 0 is abcd 0 2 0 3)
    ∷ (abcd 7 0 0 7 is abcd 0 0 8 0)
    ∷ []

-- c²d² → c²d, c³d → c²d, bc²d → c²d, ac²d → c²d, b²d⁴ → c²d, c¹⁰ → c²d, b²c⁸ → c²d, ab⁸c³ → b²d³, a⁷d⁷ → c⁸
abbrev pub five_rules : List Equation
five_rules =
    (abcd 0 0 2 2 is abcd 0 0 2 1)
    ∷ (abcd 0 0 3 1 is abcd 0 0 2 1)
    ∷ (abcd 0 1 2 1 is abcd 0 0 2 1)
    ∷ (abcd 1 0 2 1 is abcd 0 0 2 1)
    ∷ (abcd 0 2 0 4 is abcd 0 0 2 1)
    ∷ (abcd 0 0 10 0 is abcd 0 0 2 1)
    ∷ (abcd 0 2 8 0 is abcd 0 0 2 1)
    ∷ (abcd 1 8 3 0 is abcd 0 2 0 3)
    ∷ (abcd 7 0 0 7 is abcd 0 0 8 0)
    ∷ []

-- the register of the three equations, settled
abbrev pub settled_three : Contents
settled_three = settled_by three report_above 5 50

-- the worked facts
abbrev pub WorkedFacts : Type 0
WorkedFacts =
    -- bc is above c² in the report order; ac is above b² in it, and below in bulk
    (report_above (abcd 0 1 1 0) (abcd 0 0 2 0) ≡ true)
    × (report_above (abcd 1 0 1 0) (abcd 0 2 0 0) ≡ true)
    × (bulk (abcd 0 2 0 0) (abcd 1 0 1 0) ≡ true)
    -- the three equations settle with 10 lines and 50 steps; a capacity of 4 and a budget of 49 are too little
    × (settling three report_above 5 50 ≡ Counted 5 10 50)
    × (rules_of settled_three ≡ three_rules)
    × (settling three report_above 4 50 ≡ Refused (plain 8 Adding 259))
    × (settling three report_above 5 49 ≡ Refused (plain 6 Step 773))
    -- there a²b³c² and bc² are equal in 7 steps, both standard as c³; a and b differ in 0 steps
    × ((perform settled_three (Match (abcd 2 3 2 0) (abcd 0 1 2 0) 7 7)).reply ≡ Matched (equal (pos 6 ∷ pos 6 ∷ pos 6 ∷ pos 9 ∷ pos 10 ∷ pos 10 ∷ negsuc 5 ∷ [])))
    × ((perform settled_three (Standard (abcd 2 3 2 0) 6)).reply ≡ Reduced (abcd 0 0 3 0) 6)
    × ((perform settled_three (Standard (abcd 0 1 2 0) 1)).reply ≡ Reduced (abcd 0 0 3 0) 1)
    × ((perform settled_three (Match (abcd 1 0 0 0) (abcd 0 1 0 0) 0 0)).reply ≡ Matched (different 0))
    -- a = b⁴⁰⁰⁰⁰ settles under listed; standard of a² is refused 6 with budget 1 and 7 with budget 2
    × (settling wide listed 1 1 ≡ Counted 1 2 1)
    × ((perform (settled_by wide listed 1 1) (Standard (abcd 2 0 0 0) 1)).reply ≡ Refused (plain 6 Step 1))
    × ((perform (settled_by wide listed 1 1) (Standard (abcd 2 0 0 0) 2)).reply ≡ Refused (plain 7 Step 1))
    -- −32,768 in a chain names no line
    × ((perform settled_three (Replay (abcd 9 9 9 9) (negsuc 32767 ∷ []))).reply ≡ Refused (plain 11 part.Replay 1))

-- what the worked facts do not notice: a right load that is changed, with all lines and chains, and its place; and a long settling
abbrev pub WorkedBooks : Type 0
WorkedBooks =
    (settling two report_above 2 14 ≡ Counted 2 5 14)
    × ((settled_by two report_above 2 14).sheet ≡ Some two_settled)
    × (settling two report_above 2 9 ≡ Refused (plain 6 Step 32770))
    × (settling five report_above 128 4219 ≡ Counted 9 90 4219)
    × (rules_of (settled_by five report_above 128 4219) ≡ five_rules)
