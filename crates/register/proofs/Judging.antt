-- On a sound sheet a reduction ends in the family's standard load, and a verdict is right.
use Rattle.std.proofs.Common.{◌≡◌, ℕ, ◌-◌, Bool, true, false, cond, leb, ◌↔◌, List, length, Some, Ok, Err, Result, refl, ap, subst, inl, inr}
use mathlib.Core.Bool.{Bool-set}
use mathlib.Core.HLevel.{⊥_prop}
use mathlib.Core.Logic.{∥∥₁_elim, ∥∥₁_map, ∥∥₁_prop}
use Rattle.std.proofs.lemmas.Bool.{false≢true}
use Rattle.std.proofs.lemmas.Bool.Decides.{not_from_Decides}
use Rattle.loads.specs.declared.Load.{Load}
use Rattle.loads.specs.Answers.{◌>>=◌, check}
use Rattle.loads.specs.Tests.{alike, fits}
use Rattle.loads.proofs.Deciding.{alike_decides, decided}
use Rattle.orders.specs.Laws.{Relation, Admissible}
use Rattle.worksheet.specs.declared.equation.Equation.{Equation}
use Rattle.worksheet.specs.Replay.{replay}
use Rattle.rewriting.specs.Swaps.{equations, Joined, Reduces, Standard}
use Rattle.rewriting.specs.Reducing.{Way, reduce}
use Rattle.rewriting.proofs.Bridge.{reduce-ends}
use Rattle.rewriting.proofs.Standards.{reduces_joined, reducing_tells}
use Rattle.tables.specs.Trails.{forward}
use Rattle.completion.specs.States.{State}
use Rattle.soundness.specs.Sheets.{lines}
use Rattle.soundness.specs.Sound.{Sound}
use Rattle.soundness.proofs.Answering.{err_not_ok, ok_same, went, unmarked}
use Rattle.soundness.proofs.Following.{Follows, replays, followed_by, follows_back}
use Rattle.soundness.proofs.Reducing.{reduces_so, reduced_follows}
use Rattle.refusals.specs.declared.Refusal.{Refusal}
use Rattle.refusals.specs.declared.Refusal.TheVariants.{ShortChain}
use Rattle.register.specs.Contents.{Contents}
use Rattle.register.specs.Guarantee.{Guaranteed}
use Rattle.register.specs.Matching.{Verdict, equal, different, steps_of, chain_between, verdict, match}
use Rattle.register.specs.Promises.{StandardOf, ChainLeads, MatchIsRight}

-- the register that is settled with a sheet
abbrev pub settled_with : List Equation → State → Contents
settled_with book s = record { book = book; sheet = Some s }

module _ (above : Relation) (laws : Admissible above) (book : List Equation) (s : State) (z : Sound above book s) where
  -- an answered reduction stays in the family, and ends in a standard load
  reduced_tells : (b : ℕ) (a : Load) (w : Way) → reduce s.table b a ≡ Ok w → Joined book a w.end × Standard (equations s.table) w.end
  reduced_tells b a w e =
      let r = reduce-ends s.table b a w e in
      (reduces_joined above laws book (equations s.table) z.table.complete r.0, r.1)

  -- two reductions to one load, the second turned round
  between-leads : (b c : ℕ) (x y : Load) (v w : Way) → reduce s.table b x ≡ Ok v → reduce s.table c y ≡ Ok w → v.end ≡ w.end → fits y ≡ true
      → replay (lines book s.added) 1 (chain_between v w) x ≡ Ok y
  between-leads b c x y v w e f same small =
      let ls = lines book s.added in
      let there = reduced_follows ls z.claimed (reduces_so s.table b x v e).0 in
      let back = follows_back small (reduced_follows ls z.claimed (reduces_so s.table c y w f).0) in
      replays 1 (followed_by (subst (Follows ls (forward v.trail) x) same there) back)

  -- a verdict by where two reductions end
  verdict_right : (b c room : ℕ) (x y : Load) (v w : Way) → reduce s.table b x ≡ Ok v → reduce s.table c y ≡ Ok w
      → (r : Verdict) → verdict room v w ≡ Ok r → MatchIsRight (settled_with book s) x y r
  verdict_right b c room x y v w e f r h = go (alike v.end w.end) refl h
    where
      first : Reduces (equations s.table) x v.end × Standard (equations s.table) v.end
      first = reduce-ends s.table b x v e

      second : Reduces (equations s.table) y w.end × Standard (equations s.table) w.end
      second = reduce-ends s.table c y w f

      told : Joined book x y ↔ (v.end ≡ w.end)
      told = reducing_tells above laws book (equations s.table) z.table.complete x y v.end w.end first.0 first.1 second.0 second.1

      go : (same : Bool) → alike v.end w.end ≡ same
          → ◌≡◌ {A = Result Verdict Refusal} (cond same (check (leb (steps_of v w) room) ShortChain >>= λ _. Ok (equal (chain_between v w))) (Ok (different (steps_of v w)))) (Ok r)
          → MatchIsRight (settled_with book s) x y r
      go true q h =
          let g = went (check (leb (steps_of v w) room) ShortChain) _ r h in
          let one = (alike_decides v.end w.end).0 q in
          subst (MatchIsRight (settled_with book s) x y) (ok_same g.then) (record { tells = (λ _. ∣ told.1 one ∣₁, λ _. refl); leads = λ small. between-leads b c x y v w e f one small })
      go false q h =
          let two = not_from_Decides _ (alike_decides v.end w.end) q in
          subst (MatchIsRight (settled_with book s) x y) (ok_same h) (record { tells = (λ n. absurd (false≢true n), λ j. absurd (∥∥₁_elim j ⊥_prop (λ k. two (told.0 k)))); leads = tt })

  -- an answered match
  match_right : (x y : Load) (room budget : ℕ) (r : Verdict) → match s.table x y room budget ≡ Ok r → MatchIsRight (settled_with book s) x y r
  match_right x y room budget r e =
      let f = went _ _ _ e in
      let g = went _ _ _ f.then in
      verdict_right budget (budget - length f.got.trail) room x y f.got g.got (unmarked _ _ _ (unmarked _ _ _ f.first)) (unmarked _ _ _ (unmarked _ _ _ g.first)) r g.then

-- an answer of which it is known that it is so
answer-plain : {F : Type 0} (r : Result Load F) (b : Load) → ∥ r ≡ Ok b ∥₁ → r ≡ Ok b
answer-plain (Ok x) b p = elim (decided _ (alike_decides x b)) [ inl e ↦ ap Ok e | inr n ↦ absurd (∥∥₁_elim p ⊥_prop (λ e. n (ok_same e))) ]
answer-plain (Err f) b p = absurd (∥∥₁_elim p ⊥_prop err_not_ok)

module _ (book : List Equation) (s : State) (g : ∥ Guaranteed book s ∥₁) where
  -- what standard gives on a settled register
  pub standard_guaranteed : (b : ℕ) (a : Load) (w : Way) → reduce s.table b a ≡ Ok w → StandardOf (settled_with book s) a w.end
  standard_guaranteed b a w e = record {
    joined = ∥∥₁_map g (λ k. (reduced_tells k.above k.laws book s k.sound b a w e).0);
    standard = (reduce-ends s.table b a w e).1;
  }

  -- what match says on a settled register
  pub match_guaranteed : (x y : Load) (room budget : ℕ) (r : Verdict) → match s.table x y room budget ≡ Ok r → MatchIsRight (settled_with book s) x y r
  match_guaranteed x y room budget r e = record {
    tells = (λ q. ∥∥₁_elim g ∥∥₁_prop (λ k. (right k).tells.0 q), λ j. ∥∥₁_elim g (Bool-set _ _) (λ k. (right k).tells.1 j));
    leads = go r (λ k. (right k).leads);
  }
    where
      right : Guaranteed book s → MatchIsRight (settled_with book s) x y r
      right k = match_right k.above k.laws book s k.sound x y room budget r e

      go : (v : Verdict) → (Guaranteed book s → ChainLeads (settled_with book s) x y v) → ChainLeads (settled_with book s) x y v
      go (equal chain) h = λ small. answer-plain _ y (∥∥₁_map g (λ k. h k small))
      go (different steps) h = tt
