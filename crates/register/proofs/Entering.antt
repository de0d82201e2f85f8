-- The book stays small when an equation of loads that fit is entered.
use Rattle.std.proofs.Common.{◌≡◌, Bool, true, false, cond, ltb, List, [], ◌∷◌, ◌++◌, length, sym, subst}
use Rattle.std.specs.List.{AllByRecursion as All}
use Rattle.std.proofs.ByRecursion.{All-push}
use Rattle.loads.specs.Tests.{fits}
use Rattle.worksheet.specs.declared.equation.Equation.{Equation}
use Rattle.soundness.specs.Sheets.{Small}

-- whether it found room or not
either : (book : List Equation) (e : Equation) → Small e → (b : Bool) → All Small book → All Small (cond b (book ++ (e ∷ [])) book)
either book e s true h = All-push Small book e h s
either book e s false h = h

pub small_after : (book : List Equation) (e : Equation) → fits e.left ≡ true → fits e.right ≡ true → (after : List Equation)
    → after ≡ cond (ltb (length book) 32) (book ++ (e ∷ [])) book → All Small book → All Small after
small_after book e l r after is h = subst (All Small) (sym is) (either book e (l, r) (ltb (length book) 32) h)
