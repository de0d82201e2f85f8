-- Rules removed from a table, and a rule put at its place or in another's.
use Rattle.std.specs.Prelude.{ℕ, cond, not, List, [], ◌∷◌, length, filter, Result, nat_le, nat_lt}
use Rattle.loads.specs.declared.Load.{Load}
use Rattle.loads.specs.Answers.{◌>>=◌, check}
use Rattle.loads.specs.Tests.{contains}
use Rattle.orders.specs.Laws.{Relation}
use Rattle.worksheet.specs.declared.rule.Rule.{Rule}
use Rattle.tables.specs.declared.misfit.Misfit.{Misfit}
use Rattle.tables.specs.declared.misfit.Misfit.TheVariants.{Full, NoPlace, LineTooHigh}

-- the rules whose left load does not contain l
abbrev pub without : Load → List Rule → List Rule
without l t = filter (λ r. not (contains r.left l)) t

-- the rule goes to its place: left loads rise
abbrev pub enter : Relation → Rule → List Rule → List Rule
enter above r [] = r ∷ []
enter above r (s ∷ t) = cond (above r.left s.left) (s ∷ enter above r t) (r ∷ s ∷ t)

-- a chain can cite the rule's line
abbrev pub low_enough : Rule → Result (Unit {0}) Misfit
low_enough r = check (nat_le r.line 544) LineTooHigh

-- whether a table takes one rule more
abbrev pub put_fits : Rule → List Rule → Result (Unit {0}) Misfit
put_fits r t = check (nat_lt (length t) 128) Full >>= λ _. low_enough r

-- whether it takes a rule in the place of another, counted from 0
abbrev pub replace_fits : ℕ → Rule → List Rule → Result (Unit {0}) Misfit
replace_fits place r t = check (nat_lt place (length t)) NoPlace >>= λ _. low_enough r
