-- What holds of every file that is adopted, and of every settled register's file.
use Rattle.std.specs.Prelude.{◌≡◌, ℕ, ◌≤◌, List, Ok}
use Rattle.std.specs.List.{AllByRecursion}
use Rattle.loads.specs.declared.Load.{Load}
use Rattle.orders.specs.Laws.{Relation}
use Rattle.worksheet.specs.declared.equation.Equation.{Equation}
use Rattle.worksheet.specs.declared.line.Line.{Line}
use Rattle.completion.specs.States.{State}
use Rattle.completion.specs.Rounds.{settle}
use Rattle.soundness.specs.Sheets.{Small}
use Rattle.soundness.specs.Sound.{Sound}
use Rattle.swapfile.specs.Content.{Content}
use Rattle.adoption.specs.Adopting.{adopt, content_of_state}

-- the code can hold what the lines claim
abbrev pub SmallLines : List Line → Type 0
SmallLines ls = AllByRecursion (λ l. Small l.claim) ls

-- how a register came to its state: by settle, or by adopt, in so many steps
pub data SettledBy (above : Relation) (book : List Equation) (steps : ℕ) (s : State) : Type 0 where
  by_settle : (capacity budget : ℕ) → settle above capacity book budget ≡ Ok (steps, s) → SettledBy above book steps s
  by_adopt : (budget : ℕ) (m : Content) → SmallLines m.lines → adopt above book budget m ≡ Ok (steps, s) → SettledBy above book steps s

-- the state of a file that is adopted under a relation is sound
abbrev pub AcceptedIsSound : Relation → Type 0
AcceptedIsSound above =
    (book : List Equation) → AllByRecursion Small book → (budget steps : ℕ) (m : Content) → SmallLines m.lines → (s : State)
    → adopt above book budget m ≡ Ok (steps, s) → Sound above book s

-- the relations say the same of every two loads
abbrev pub SameRelation : Relation → Relation → Type 0
SameRelation above above' = (x y : Load) → above x y ≡ above' x y

-- the file of a register that was settled under the first relation is adopted under the second, with any budget that allows its steps, in no more of
-- them, and the state comes out the same
abbrev pub WhatSettledIsAccepted : Relation → Relation → Type 0
WhatSettledIsAccepted above above' =
    (book : List Equation) → AllByRecursion Small book → (steps budget : ℕ) (s : State) → SettledBy above book steps s → steps ≤ budget
    → (n : ℕ) × (n ≤ steps) × (adopt above' book budget (content_of_state book s) ≡ Ok (n, s))

-- a register that adopted a file hands over what the file holds
abbrev pub AdoptedIsWhatTheFileHas : Relation → Type 0
AdoptedIsWhatTheFileHas above =
    (book : List Equation) (budget steps : ℕ) (m : Content) (s : State) → adopt above book budget m ≡ Ok (steps, s) → content_of_state book s ≡ m
