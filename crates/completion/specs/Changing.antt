-- A right load that some rule fits, and the rule that takes its place.
use Rattle.std.specs.Prelude.{ℕ, ◌+◌, cond, List, [], ◌∷◌, pos, is_some, Some, None, Option}
use Rattle.worksheet.specs.declared.rule.Rule.{Rule}
use Rattle.rewriting.specs.declared.reduce.Reduced.{Reduced}
use Rattle.rewriting.specs.Reducing.{fitting, Way}
use Rattle.tables.specs.Trails.{forward}
use Rattle.questions.specs.declared.placed.Place.{Place}
use Rattle.questions.specs.declared.placed.Place.TheVariants.{RightLoad}
use Rattle.questions.specs.declared.question.Bridge.TheVariants.{Forward}
use Rattle.questions.specs.declared.question.Fork.{Fork}
use Rattle.completion.specs.declared.found.Found.{Found}
use Rattle.worksheet.specs.Derivations.{Derivation}

-- the first rule whose right load some rule of t fits; the first of rs stands at place i
abbrev pub unfinished : List Rule → ℕ → List Rule → Option Found
unfinished t i [] = None
unfinished t i (r ∷ rs) = cond (is_some (fitting t r.right)) (Some (record { place = i; rule = r })) (unfinished t (i + 1) rs)

-- the right load of the rule at a place counted from 0
abbrev pub right_place : ℕ → Place
right_place i = RightLoad (i + 1)

-- the line of a rule whose right load went the way w: its old line, then the way
abbrev pub rederived : Rule → Way → Derivation
rederived r w = record { claim = record { left = r.left; right = w.end }; chain = pos r.line ∷ forward w.trail }

-- the change as a fork: the old line leads from the left load, which stays, to the right load
abbrev pub renewal : Rule → (place : Place) → Reduced → (left : ℕ) → Fork
renewal r place x left = record {
  question = record { place = place; first = r.left; second = r.right; bridge = Forward r.line };
  first = record { end = r.left; steps = 0 };
  second = x;
  left = left;
}
