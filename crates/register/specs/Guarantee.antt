-- What a settled register guarantees.
use Rattle.std.specs.Prelude.{List}
use Rattle.orders.specs.Laws.{Relation, Admissible}
use Rattle.worksheet.specs.declared.equation.Equation.{Equation}
use Rattle.completion.specs.States.{State}
use Rattle.soundness.specs.Sound.{Sound}

-- under some relation that keeps the laws the table decides the book, and the worksheet shows why
pub record Guaranteed (book : List Equation) (s : State) : Type 0 where
  pub above : Relation
  pub laws : Admissible above
  pub sound : Sound above book s
