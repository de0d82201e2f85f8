-- What a settled register guarantees.
use Rattle.std.specs.Prelude.{◌≡◌, ℕ, List, Ok}
use Rattle.std.specs.List.{AllByRecursion}
use Rattle.orders.specs.Laws.{Relation, Admissible}
use Rattle.worksheet.specs.declared.equation.Equation.{Equation}
use Rattle.rewriting.specs.Swaps.{equations}
use Rattle.rewriting.specs.Settled.{Settled}
use Rattle.completion.specs.States.{State}
use Rattle.completion.specs.Rounds.{settle}
use Rattle.soundness.specs.Sheets.{Small, lines, LinesReplay, FollowsFrom, Claimed}

-- the table decides the book's families and is reduced; every line replays by earlier ones and follows from the book; every rule is what its line claims
pub record Sound (above : Relation) (book : List Equation) (s : State) : Type 0 where
  pub table : Settled above book (equations s.table)
  pub replay : LinesReplay book s.added
  pub follow : AllByRecursion (FollowsFrom book) (lines book s.added)
  pub claimed : AllByRecursion (Claimed (lines book s.added)) s.table

-- what an answered settle ends with is sound
abbrev pub RoundsAreSound : Type 0
RoundsAreSound =
    (above : Relation) → Admissible above → (book : List Equation) → AllByRecursion Small book
    → (capacity budget steps : ℕ) (s : State) → settle above capacity book budget ≡ Ok (steps, s) → Sound above book s
