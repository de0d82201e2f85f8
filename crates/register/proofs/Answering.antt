-- What the calls of a settled register come to.
use Rattle.std.proofs.Common.{◌≡◌, ℕ, ◌+◌, ◌-◌, ◌≤◌, true, false, leb, List, length, Some, None, Ok, Err, Result, sym, refl, ap, ◌∙◌, subst, ap₂}
use mathlib.Core.Logic.{∥∥₁_map}
use Rattle.std.specs.Result.{result_err}
use Rattle.loads.specs.declared.Load.{Load}
use Rattle.std.proofs.lemmas.Bool.{le-leb}
use Rattle.loads.specs.Answers.{marked}
use Rattle.loads.specs.Tests.{alike}
use Rattle.worksheet.specs.declared.rule.Rule.{Rule}
use Rattle.rewriting.specs.declared.reduce.Reduced.{Reduced}
use Rattle.rewriting.specs.declared.reduce.StepFault.{StepFault}
use Rattle.rewriting.specs.Reducing.{Way, reduce, counted, told}
use Rattle.questions.specs.declared.placed.Place.{Place}
use Rattle.questions.specs.declared.placed.Place.TheVariants.{Argument}
use Rattle.questions.specs.Placed.{placed}
use Rattle.completion.specs.States.{State, held}
use Rattle.soundness.proofs.Answering.{err_not_ok, ok_same, goes, passes, marks, unmarked}
use Rattle.refusals.specs.declared.Refusal.{Refusal}
use Rattle.refusals.specs.declared.Refusal.TheVariants.{Step, ShortChain}
use Rattle.register.specs.declared.register.Register.{Register}
use Rattle.register.specs.Contents.{Contents}
use Rattle.register.specs.Guarantee.{Guaranteed}
use Rattle.register.specs.Calls as calls
use Rattle.register.specs.Calls.{Did}
use Rattle.register.specs.Matching.{Verdict, equal, different, steps_of, chain_between, verdict, match}
use Rattle.register.specs.Promises.{MatchIsRight}
use Rattle.register.specs.View.{view, sheet_if}
use Rattle.register.proofs.Judging.{settled_with, match_guaranteed}

-- what a settled register shows
pub view_settled : (g : Register) → g.settled ≡ true → view g ≡ settled_with g.book (held g.workings)
view_settled g e = rw e refl

-- what it guarantees
pub guarantee : (g : Register) → g.settled ≡ true → ∥ Guaranteed g.book (held g.workings) ∥₁
guarantee g e = ∥∥₁_map g.sound (λ k. k e)

-- the way of a reduction that the code answered
pub record WayOf (t : List Rule) (b : ℕ) (a : Load) (r : Reduced) : Type 0 where
  pub way : Way
  pub answered : reduce t b a ≡ Ok way
  pub same : counted way ≡ r

pub way_of : (t : List Rule) (b : ℕ) (a : Load) (r : Reduced) → Ok r ≡ told (reduce t b a) → WayOf t b a r
way_of t b a r e = go (reduce t b a) refl e
  where
    go : (x : Result Way StepFault) → reduce t b a ≡ x → Ok r ≡ told x → WayOf t b a r
    go (Ok w) d e = record { way = w; answered = d; same = sym (ok_same e) }
    go (Err f) d e = absurd (err_not_ok (sym e))

-- the same, of a reduction in a row that has the table's rules, whose refusal gained a place
pub placed_way : (t u : List Rule) (b : ℕ) (a : Load) (k : Place) (r : Reduced) (x : Result Reduced StepFault) → u ≡ t → x ≡ told (reduce u b a) → Ok r ≡ marked (placed k) x → WayOf t b a r
placed_way t u b a k r x same is e = way_of t b a r (sym (unmarked (placed k) x r (sym e)) ∙ is ∙ ap (λ v. told (reduce v b a)) same)

module _ (c : Contents) (s : State) (settled : c.sheet ≡ Some s) where
  -- two loads are matched
  pub match_did : (a b : Load) (room budget : ℕ) (v : Verdict) → match s.table a b room budget ≡ Ok v → Did c (calls.Match a b room budget) (calls.Matched v) c
  match_did a b room budget v e = record { said = rw (settled, e); left = rw (settled, e) }

  -- and nothing is refused
  pub match_passed : (a b : Load) (room budget : ℕ) (v : Verdict) → match s.table a b room budget ≡ Ok v → None ≡ result_err (calls.matching c a b room budget)
  match_passed a b room budget v e = rw (settled, e) refl

-- what a match comes to, by its two reductions
module _ (t : List Rule) (a b : Load) (room budget : ℕ) (one two : Reduced) (p : WayOf t budget a one) (q : WayOf t (budget - one.steps) b two) where
  steps_one : length p.way.trail ≡ one.steps
  steps_one = ap (λ (r : Reduced). r.steps) p.same

  steps_two : length q.way.trail ≡ two.steps
  steps_two = ap (λ (r : Reduced). r.steps) q.same

  pub steps_both : steps_of p.way q.way ≡ one.steps + two.steps
  steps_both = ap₂ (λ m n. m + n) steps_one steps_two

  ends-alike : alike p.way.end q.way.end ≡ alike one.end two.end
  ends-alike = ap₂ (λ (x y : Reduced). alike x.end y.end) p.same q.same

  judged : (v : Result Verdict Refusal) → verdict room p.way q.way ≡ v → match t a b room budget ≡ v
  judged v e =
      goes _ (marks Step (marks (placed (Argument 1)) p.answered))
      (goes _ (marks Step (marks (placed (Argument 2)) (ap (λ n. reduce t (budget - n) b) steps_one ∙ q.answered))) e)

  -- the ends differ
  pub differs : alike one.end two.end ≡ false → match t a b room budget ≡ Ok (different (one.steps + two.steps))
  differs n = judged (Ok (different (one.steps + two.steps))) (rw (ends-alike, n) (ap (λ k. Ok (different k)) steps_both))

  -- the ends are the same, and the chain finds room
  pub equals : alike one.end two.end ≡ true → one.steps + two.steps ≤ room → match t a b room budget ≡ Ok (equal (chain_between p.way q.way))
  equals y r = judged (Ok (equal (chain_between p.way q.way))) (rw (ends-alike, y) (goes _ (passes ShortChain room-left) refl))
    where
      room-left : leb (steps_of p.way q.way) room ≡ true
      room-left = rw steps_both (le-leb (one.steps + two.steps) room r)

-- an answered match of a settled register does what the call says, and is right
pub record WellMatched (g : Register) (a b : Load) (room budget : ℕ) (v : Verdict) : Type 0 where
  pub did : Did (view g) (calls.Match a b room budget) (calls.Matched v) (view g)
  pub refused : None ≡ result_err (calls.matching (view g) a b room budget)
  pub right : MatchIsRight (view g) a b v

pub well_matched : (g : Register) → g.settled ≡ true → (a b : Load) (room budget : ℕ) (v : Verdict) → match (held g.workings).table a b room budget ≡ Ok v → WellMatched g a b room budget v
well_matched g on a b room budget v e =
    let s = held g.workings in
    record {
      did = match_did (view g) s (ap (λ b. sheet_if b s) on) a b room budget v e;
      refused = match_passed (view g) s (ap (λ b. sheet_if b s) on) a b room budget v e;
      right = subst (λ (c : Contents). MatchIsRight c a b v) (sym (view_settled g on)) (match_guaranteed g.book s (guarantee g on) a b room budget v e);
    }
