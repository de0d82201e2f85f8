-- The rule that a question leads to whose loads end apart.
use Rattle.std.specs.Prelude.{ℕ, ◌+◌, cond, List, [], ◌∷◌, ◌++◌, length, ℤ, pos, neg_ℤ, Ok, Result, nat_lt}
use mathlib.Core.HLevel.{×_prop}
use Rattle.std.proofs.Math.Bridge.{le_prop}
use Rattle.loads.specs.Answers.{◌>>=◌, check}
use Rattle.orders.specs.Laws.{Relation}
use Rattle.worksheet.specs.declared.equation.Equation.{Equation}
use Rattle.worksheet.specs.declared.rule.Rule.{Rule}
use Rattle.tables.specs.Placing.{without, enter}
use Rattle.tables.specs.Trails.{forward, undo}
use Rattle.questions.specs.declared.placed.Place.{Place}
use Rattle.questions.specs.declared.question.Bridge.{Bridge}
use Rattle.questions.specs.declared.question.Bridge.TheVariants.{Forward, Backward, Peak}
use Rattle.questions.specs.declared.question.Fork.{Fork}
use Rattle.questions.specs.Questions.{Cited}
use Rattle.questions.specs.Asking.{Parting, turned_parting, turned_fork, parting_of}
use Rattle.completion.specs.declared.fault.RoundFault.{RoundFault}
use Rattle.completion.specs.declared.fault.RoundFault.TheVariants.{Full}
use Rattle.worksheet.specs.Derivations.{Derivation}

-- the chain from the first load of a question to the second: a line either way, or over the peak by the one rule backward and the other forward
abbrev pub between : Bridge → List ℤ
between (Forward k) = pos k ∷ []
between (Backward k) = neg_ℤ (pos k) ∷ []
between (Peak i j) = neg_ℤ (pos i) ∷ pos j ∷ []

-- the line from the first end to the second: undo the first way, pass from load to load, follow the second
abbrev pub derived : Parting → Derivation
derived p = record {
  claim = record { left = p.first.end; right = p.second.end };
  chain = undo (forward p.first.trail) ++ (between p.question.bridge ++ forward p.second.trail);
}

-- how many numbers the chain of a fork has
abbrev pub chain_length : Fork → ℕ
chain_length f = f.first.steps + (length (between f.question.bridge) + f.second.steps)

-- the chain of a fork in a table
abbrev pub fork_chain : List Rule → Fork → List ℤ
fork_chain t f = (derived (parting_of t f)).chain

-- with the higher end first
abbrev pub oriented : Relation → Parting → Parting
oriented above p = cond (above p.first.end p.second.end) p (turned_parting p)

-- the same of a fork
abbrev pub oriented_fork : Relation → Fork → Fork
oriented_fork above f = cond (above f.first.end f.second.end) f (turned_fork f)

-- the rule that a line claims, with the line's number
abbrev pub rule_of : Equation → ℕ → Rule
rule_of e n = record { left = e.left; right = e.right; line = n }

-- the table with a rule more: rules whose left load contains its left load are removed; then the capacity is checked; then the rule goes to its place
abbrev pub admit : Relation → (capacity : ℕ) (place : Place) → Rule → List Rule → Result (List Rule) RoundFault
admit above capacity place r t =
    check (nat_lt (length (without r.left t)) capacity) (Full place) >>= λ _.
    Ok (enter above r (without r.left t))

-- that a chain can cite the lines of a bridge holds in one way at most
pub Cited-prop : (b : Bridge) → IsProp (Cited b)
Cited-prop (Forward k) = le_prop
Cited-prop (Backward k) = le_prop
Cited-prop (Peak i j) = ×_prop le_prop le_prop
