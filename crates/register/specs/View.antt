-- What a register of the code holds, as the definitions have it.
use Rattle.std.specs.Prelude.{Bool, true, false, List, Some, None, Option}
use Rattle.worksheet.specs.declared.equation.Equation.{Equation}
use Rattle.completion.specs.States.{State, held}
use Rattle.register.specs.declared.register.Register.{Register}
use Rattle.register.specs.Contents.{Contents}

-- the sheet of a settled register, none of an open one
abbrev pub sheet_if : Bool → State → Option State
sheet_if true s = Some s
sheet_if false s = None

-- the contents with these rows
abbrev pub contents_of : List Equation → Bool → State → Contents
contents_of book settled s = record { book = book; sheet = sheet_if settled s }

-- what the register holds
abbrev pub view : Register → Contents
view g = contents_of g.book g.settled (held g.workings)
