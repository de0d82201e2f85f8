use Rattle.std.proofs.Common.{◌≡◌, not, zip, ap, sym, ◌∙◌, rules, tests}
use Rattle.std.specs.List.{position_from}
use Rattle.std.proofs.lemmas.Iterator.{YieldsList-from_slice, YieldsList-from_zip}
use Rattle.std.proofs.lemmas.Iterator.Adapters.{position_from-zero}
use Rattle.std.proofs.lemmas.Iterator.Search.{position_from_yields_List}
use Rattle.worksheet.specs.declared.equation.Equation.{Equation}
use Rattle.adoption.proofs.Agreeing.{equal, differing, differ_own}
use Rattle.adoption.proofs.equations.check_equations.Goals as goal
use Rattle.adoption.proofs.equations.check_equations.Goals.{After-position}

-- the place that was found is that of the first pair that differs
found : (c : After-position) → c.position.result ≡ position_from (λ (p : Equation × Equation). not (equal p.0 p.1)) 0 (zip c.args.own.now c.args.file.now)
found c =
    position_from_yields_List (λ (p : Equation × Equation). not (equal p.0 p.1)) c.position.new.self _ c.position.result c.position.ensures.ran
    (YieldsList-from_zip (YieldsList-from_slice c.args.own.now cc) (YieldsList-from_slice c.args.file.now cc)) (λ x r q k. search (rules, tests))
    ∙ position_from-zero (λ (p : Equation × Equation). not (equal p.0 p.1)) (zip c.args.own.now c.args.file.now)

pub returns-in-Some : goal.returns-in-Some
returns-in-Some c = ap differing (sym c.in-Some.is ∙ found c.before) ∙ differ_own c.args.own.now c.args.file.now c.if-own-file.false

pub returns-in-None : goal.returns-in-None
returns-in-None c = ap differing (sym c.in-None.is ∙ found c.before) ∙ differ_own c.args.own.now c.args.file.now c.if-own-file.false
