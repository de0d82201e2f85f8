-- What the rounds end with.
use Rattle.std.proofs.Common.{◌≡◌, ℕ, zero, suc, ◌+◌, ◌-◌, ◌≤◌, ltb, List, [], ◌∷◌, ◌++◌, length, Some, None, Ok, Option, Result, sym, refl, subst, arith}
use Rattle.std.specs.List.{AllByRecursion as All}
use Rattle.loads.specs.Answers.{check}
use Rattle.orders.specs.Laws.{Relation, Admissible}
use Rattle.worksheet.specs.declared.equation.Equation.{Equation}
use Rattle.worksheet.specs.declared.rule.Rule.{Rule}
use Rattle.rewriting.specs.Reducing.{fitting}
use Rattle.tables.specs.Placing.{without, enter}
use Rattle.questions.specs.Topics.{topics}
use Rattle.questions.specs.Asking.{Parting, Ending, met, apart}
use Rattle.completion.specs.declared.fault.RoundFault.{RoundFault}
use Rattle.completion.specs.declared.fault.RoundFault.TheVariants.{Full, NoRoom}
use Rattle.completion.specs.declared.found.Found.{Found}
use Rattle.std.specs.declared.ops.ControlFlow.TheVariants.{Break, Continue}
use Rattle.completion.specs.States.{State, blank}
use Rattle.completion.specs.Room.{roomy}
use Rattle.completion.specs.Adding.{derived, oriented, rule_of, admit}
use Rattle.completion.specs.Changing.{unfinished}
use Rattle.completion.specs.Rounds.{Turn, Wish, nothing, a_line, add, change, proceed, wish, note, no_more, rounds, settle}
use Rattle.soundness.specs.Sheets.{Small, lines}
use Rattle.soundness.proofs.Answering.{err_not_ok, ok_same, went, unmarked}
use Rattle.soundness.proofs.Reducing.{reduces_so}
use Rattle.soundness.proofs.Lines.{lines_fit}
use Rattle.soundness.proofs.Ordering.{unfinished-at, unfinished-none}
use Rattle.soundness.proofs.Asking.{AllMet, Told, all_told}
use Rattle.soundness.proofs.Bridging.{topics-chained}
use Rattle.soundness.proofs.Keeping.{Kept, oriented_ready, added_kept, changed_kept}

-- no rule fits a right load, and every topic meets; n steps suffice to see it
pub record Finished (above : Relation) (book : List Equation) (s : State) (n : ℕ) : Type 0 where
  pub kept : Kept above book s.table s.added
  pub rights : All (λ (r : Rule). fitting s.table r.right ≡ None) s.table
  pub steps : ℕ
  pub all : AllMet s.table (topics book s.table) steps
  pub within : steps ≤ n

module _ (above : Relation) (laws : Admissible above) (book : List Equation) (small : All Small book) (capacity : ℕ) where
  -- what a wish comes to, from a state with a budget: nothing is left to do, or a line with its table keeps what holds
  abbrev Comes : ℕ → State → Wish → Type 0
  Comes b s (nothing left) = Finished above book s (b - left) × (left ≤ b)
  Comes b s (a_line place new t left) = Kept above book t (s.added ++ (new ∷ [])) × (left ≤ b)

  add_comes : (b : ℕ) (s : State) → Kept above book s.table s.added → (p : Parting) → Told s.table (lines book s.added) (topics book s.table) b (apart p)
      → (w : Wish) → add above capacity (length book + length s.added + 1) p s.table ≡ Ok w → Comes b s w
  add_comes b s k p f w e =
      let new = derived (oriented above p) in
      let rule = rule_of new.claim (length book + length s.added + 1) in
      let kept = without new.claim.left s.table in
      let a = went (admit above capacity p.question.place rule s.table) (λ t. Ok (a_line p.question.place new t p.left)) w e in
      let c = went (check (ltb (length kept) capacity) (Full p.question.place)) (λ _. Ok (enter above rule kept)) a.got a.first in
      let r = oriented_ready above laws s.table (lines book s.added) b p f in
      let h = added_kept above laws book s.table s.added k new r in
      let both : Comes b s (a_line p.question.place new a.got p.left) = (subst (λ t. Kept above book t (s.added ++ (new ∷ []))) (ok_same c.then) h, f.within) in
      subst (Comes b s) (ok_same a.then) both

  change_comes : (b left : ℕ) (s : State) → Kept above book s.table s.added → left ≤ b → (f : Found) → unfinished s.table 0 s.table ≡ Some f
      → (w : Wish) → change (length book + length s.added + 1) left f s.table ≡ Ok w → Comes b s w
  change_comes b left s k l f u w e =
      let a = went _ _ _ e in
      let p = unfinished-at s.table 0 s.table f u in
      let z : p.on ≡ f.place = omega (arith, p.place) in
      let d = reduces_so s.table left f.rule.right a.got (unmarked _ _ _ (unmarked _ _ _ a.first)) in
      let h = changed_kept above laws book s.table s.added k small f.place f.rule (rw z at p.stands) a.got d.0 in
      subst (Comes b s) (ok_same a.then) (h, omega arith)

  proceed_comes : (b : ℕ) (s : State) → Kept above book s.table s.added → (o : Ending) → Told s.table (lines book s.added) (topics book s.table) b o
      → (w : Wish) → proceed above capacity (length book + length s.added + 1) s.table o ≡ Ok w → Comes b s w
  proceed_comes b s k (apart p) f w e = add_comes b s k p f w e
  proceed_comes b s k (met left) m w e = go (unfinished s.table 0 s.table) refl e
    where
      go : (o : Option Found) → unfinished s.table 0 s.table ≡ o
          → ◌≡◌ {A = Result Wish RoundFault} (elim o [ Some f ↦ change (length book + length s.added + 1) left f s.table | None ↦ Ok (nothing left) ]) (Ok w) → Comes b s w
      go (Some f) u e = change_comes b left s k (omega (arith, m.counts)) f u w e
      go None u e = subst (Comes b s) (ok_same e) (
        record { kept = k; rights = unfinished-none s.table 0 s.table u; steps = m.steps; all = m.all; within = omega (arith, m.counts) },
        omega (arith, m.counts),
      )

  wish_comes : (b : ℕ) (s : State) → Kept above book s.table s.added → (w : Wish) → wish above capacity book b s ≡ Ok w → Comes b s w
  wish_comes b s k w e =
      let f = went _ _ _ e in
      let ls = lines book s.added in
      let o = all_told s.table ls k.claimed b (topics book s.table)
      (topics-chained book _ s.table small (lines_fit book s.added small k.replay) k.claimed) f.got (unmarked _ _ _ f.first) in
      proceed_comes b s k f.got o w f.then

  -- the rounds, with what is left of the budget
  abbrev Ends : ℕ → ℕ × State → Type 0
  Ends b x = Finished above book x.1 (b - x.0) × (x.0 ≤ b)

  rounds-end : (n b : ℕ) (s : State) → Kept above book s.table s.added → (x : ℕ × State) → rounds above capacity book n b s ≡ Ok x → Ends b x
  rounds-end zero b s k x e = let f = went _ _ _ e in go f.got (wish_comes b s k f.got f.first) f.then
    where
      go : (w : Wish) → Comes b s w → no_more s w ≡ Ok x → Ends b x
      go (nothing left) c e = subst (Ends b) (ok_same e) c
      go (a_line place new t left) c e = absurd (err_not_ok e)
  rounds-end (suc n) b s k x e =
      let f = went _ _ _ e in
      let g = went _ _ _ f.first in
      go g.got (wish_comes b s k g.got g.first) f.got g.then f.then (λ left u h d. rounds-end n left u h x d)
    where
      go : (w : Wish) → Comes b s w → (y : Turn × State) → note s w ≡ Ok y
          → ◌≡◌ {A = Result (ℕ × State) RoundFault} (elim y.0 [ Break left ↦ Ok (left, y.1) | Continue left ↦ rounds above capacity book n left y.1 ]) (Ok x)
          → ((left : ℕ) (u : State) → Kept above book u.table u.added → rounds above capacity book n left u ≡ Ok x → Ends left x) → Ends b x
      go (nothing left) c y d e ih =
          let q = ok_same d in
          let r : ◌≡◌ {A = Result (ℕ × State) RoundFault} (Ok (left, s)) (Ok x) = subst (λ (y : Turn × State). ◌≡◌ {A = Result (ℕ × State) RoundFault} (elim y.0 [ Break left ↦ Ok (left, y.1) | Continue left ↦ rounds above capacity book n left y.1 ]) (Ok x)) (sym q) e in
          subst (Ends b) (ok_same r) c
      go (a_line place new t left) c y d e ih =
          let f = went (check (roomy s.added (length new.chain)) (NoRoom place)) _ y d in
          let q = ok_same f.then in
          let r : rounds above capacity book n left (record { table = t; added = s.added ++ (new ∷ []) }) ≡ Ok x = subst (λ (y : Turn × State). ◌≡◌ {A = Result (ℕ × State) RoundFault} (elim y.0 [ Break left ↦ Ok (left, y.1) | Continue left ↦ rounds above capacity book n left y.1 ]) (Ok x)) (sym q) e in
          let h = ih left (record { table = t; added = s.added ++ (new ∷ []) }) c.0 r in
          let m = h.0 in
          (record { kept = m.kept; rights = m.rights; steps = m.steps; all = m.all; within = omega (arith, m.within, h.1, c.1) }, omega (arith, h.1, c.1))

  -- an answered settle, and the steps that it made
  pub settle-finished : (budget steps : ℕ) (s : State) → settle above capacity book budget ≡ Ok (steps, s) → Finished above book s steps
  settle-finished budget steps s e =
      let f = went _ _ _ e in
      let h = rounds-end 512 budget blank (record { replay = tt; claimed = tt; falls = tt; ordered = tt }) f.got f.first in
      subst (λ (y : ℕ × State). Finished above book y.1 y.0) (ok_same f.then) h.0
