-- One round by the way that it took, and rounds one at a time.
use Rattle.std.proofs.Common.{◌≡◌, ℕ, zero, suc, ◌+◌, ◌-◌, ◌<◌, Bool, true, false, ltb, List, [], ◌∷◌, ◌++◌, length, Ok, Err, Result, sym, refl, ap, ◌∙◌, subst, ap₂, arith}
use Rattle.std.proofs.lemmas.List.{length_push}
use Rattle.std.proofs.lemmas.Bool.{and_parts, ltb-true}
use Rattle.loads.specs.Answers.{◌>>=◌, marked}
use Rattle.orders.specs.Laws.{Relation}
use Rattle.worksheet.specs.declared.equation.Equation.{Equation}
use Rattle.worksheet.specs.declared.rule.Rule.{Rule}
use Rattle.questions.specs.declared.question.Fork.{Fork}
use Rattle.questions.specs.Questions.{Cited}
use Rattle.questions.specs.Asking.{Parting, fork_of, parting_of}
use Rattle.questions.proofs.Partings.{Parted, ToldOf}
use Rattle.completion.specs.declared.fault.RoundFault.{RoundFault}
use Rattle.completion.specs.declared.fault.RoundFault.TheVariants.{Step, NoRoom}
use Rattle.std.specs.declared.ops.ControlFlow.TheVariants.{Break, Continue}
use Rattle.completion.specs.Room.{roomy}
use Rattle.completion.specs.States.{State, blank}
use Rattle.completion.specs.Rounds.{Turn, Wish, nothing, a_line, add, proceed, next_line, wish, note, granted, round, forked, no_more, rounds, settle}

-- the parting that a fork counts is read again from the table
parting_again : (t : List Rule) (p : Parting) → Parted t p → parting_of t (fork_of p) ≡ p
parting_again t p h =
    ap₂ (λ x y. record { question = p.question; first = record { end = p.first.end; trail = x }; second = record { end = p.second.end; trail = y }; left = p.left }) h.first h.second

module _ (t : List Rule) (b : ℕ) (book : List Equation) (f : Fork) (told : ToldOf t b book f) where
  again : parting_of t f ≡ told.parting
  again = ap (parting_of t) told.fork ∙ parting_again t told.parting told.shown

  pub fork_counted : fork_of (parting_of t f) ≡ f
  fork_counted = ap fork_of again ∙ sym told.fork

  pub fork_cited : Cited f.question.bridge
  fork_cited = subst (λ (x : Fork). Cited x.question.bridge) (sym told.fork) told.shown.cited

-- a round that comes to a fork
pub round-forked : (above : Relation) (capacity n b : ℕ) (book : List Equation) (s : State) (f : Fork) → ToldOf s.table b book f → n ≡ length book
    → forked above capacity n f s ≡ round above capacity book b s
round-forked above capacity n b book s f told long =
    ap₂ (λ p m. granted s (add above capacity (next_line m s) p s.table)) (again s.table b book f told) long
    ∙ ap (λ x. granted s (marked Step x >>= proceed above capacity (next_line (length book) s) s.table)) (sym told.ends)

-- what comes of a wish, read back
module _ (s : State) where
  abbrev Granted : Type 0
  Granted = Result (Turn × State) RoundFault

  same_turn : (u v : Turn) (a b : State) → ◌≡◌ {A = Granted} (Ok (u, a)) (Ok (v, b)) → (u ≡ v) × (a ≡ b)
  same_turn u v a b e = let p : ◌≡◌ {A = Turn × State} (u, a) (v, b) = cc in (ap (λ (x : Turn × State). x.0) p, ap (λ (x : Turn × State). x.1) p)

  -- a line was added, so there was room for it
  note_again : (x : Wish) (n : ℕ) (t : State) → note s x ≡ Ok (Continue n, t) → (length s.added < 512) × (length t.added ≡ length s.added + 1)
  note_again (nothing left) n t e = let d = (same_turn (Break left) (Continue n) s t e).0 in let z : ◌≡◌ {A = ℕ} 0 1 = cc in absurd (omega arith)
  note_again (a_line place new table left) n t e = go (roomy s.added (length new.chain)) refl
    where
      go : (b : Bool) → roomy s.added (length new.chain) ≡ b → (length s.added < 512) × (length t.added ≡ length s.added + 1)
      go true h =
          let d : ◌≡◌ {A = Granted} (Ok (Continue left, record { table = table; added = s.added ++ (new ∷ []) })) (Ok (Continue n, t)) = rw (h, note) at e in
          let same = (same_turn (Continue left) (Continue n) _ t d).1 in
          (ltb-true (length s.added) 512 (and_parts (ltb (length s.added) 512) _ h).0, ap (λ (u : State). length u.added) (sym same) ∙ length_push s.added new)
      go false h = let d : ◌≡◌ {A = Granted} (Err (NoRoom place)) (Ok (Continue n, t)) = rw (h, note) at e in let z : ◌≡◌ {A = ℕ} 0 1 = cc in absurd (omega arith)

  -- where nothing is wished, and where a line is not granted, no more lines make no difference
  no_more_settled : (x : Wish) (n : ℕ) (t : State) → note s x ≡ Ok (Break n, t) → no_more s x ≡ Ok (n, t)
  no_more_settled (nothing left) n t e = let d = (same_turn (Break left) (Break n) s t e).0 in let m : left ≡ n = cc in ap₂ (λ a b. Ok (a, b)) m (same_turn (Break left) (Break n) s t e).1
  no_more_settled (a_line place new table left) n t e = go (roomy s.added (length new.chain)) refl
    where
      go : (b : Bool) → roomy s.added (length new.chain) ≡ b → no_more s (a_line place new table left) ≡ Ok (n, t)
      go true h =
          let d : ◌≡◌ {A = Granted} (Ok (Continue left, record { table = table; added = s.added ++ (new ∷ []) })) (Ok (Break n, t)) = rw (h, note) at e in
          let f = (same_turn (Continue left) (Break n) _ t d).0 in
          let z : ◌≡◌ {A = ℕ} 0 1 = cc in
          absurd (omega arith)
      go false h = let d : ◌≡◌ {A = Granted} (Err (NoRoom place)) (Ok (Break n, t)) = rw (h, note) at e in let z : ◌≡◌ {A = ℕ} 0 1 = cc in absurd (omega arith)

  no_more_refused : (x : Wish) (f : RoundFault) → note s x ≡ Err f → no_more s x ≡ Err f
  no_more_refused (nothing left) f e = let z : ◌≡◌ {A = ℕ} 0 1 = cc in absurd (omega arith)
  no_more_refused (a_line place new table left) f e = go (roomy s.added (length new.chain)) refl
    where
      go : (b : Bool) → roomy s.added (length new.chain) ≡ b → no_more s (a_line place new table left) ≡ Err f
      go true h =
          let d : ◌≡◌ {A = Granted} (Ok (Continue left, record { table = table; added = s.added ++ (new ∷ []) })) (Err f) = rw (h, note) at e in
          let z : ◌≡◌ {A = ℕ} 0 1 = cc in
          absurd (omega arith)
      go false h = let d : ◌≡◌ {A = Granted} (Err (NoRoom place)) (Err f) = rw (h, note) at e in let m : NoRoom place ≡ f = cc in ap Err m

-- rounds one at a time
module _ (above : Relation) (capacity : ℕ) (book : List Equation) (b : ℕ) (s : State) where
  pub round_again : (n : ℕ) (t : State) → round above capacity book b s ≡ Ok (Continue n, t) → (length s.added < 512) × (length t.added ≡ length s.added + 1)
  round_again n t e = go (wish above capacity book b s) refl
    where
      go : (x : Result Wish RoundFault) → wish above capacity book b s ≡ x → (length s.added < 512) × (length t.added ≡ length s.added + 1)
      go (Ok x) h = note_again s x n t (ap (granted s) (sym h) ∙ e)
      go (Err d) h = let f : ◌≡◌ {A = Result (Turn × State) RoundFault} (Err d) (Ok (Continue n, t)) = ap (granted s) (sym h) ∙ e in let z : ◌≡◌ {A = ℕ} 0 1 = cc in absurd (omega arith)

  abbrev then : ℕ → Turn × State → Result (ℕ × State) RoundFault
  then m x = elim x.0 [ Break left ↦ Ok (left, x.1) | Continue left ↦ rounds above capacity book m left x.1 ]

  pub rounds_again : (m k n : ℕ) (t : State) → m ≡ suc k → round above capacity book b s ≡ Ok (Continue n, t) → rounds above capacity book m b s ≡ rounds above capacity book k n t
  rounds_again m k n t q e = ap (λ r. rounds above capacity book r b s) q ∙ ap (λ x. x >>= then k) e

  rounds_settled : (m n : ℕ) (t : State) → round above capacity book b s ≡ Ok (Break n, t) → rounds above capacity book m b s ≡ Ok (n, t)
  rounds_settled (suc m) n t e = ap (λ x. x >>= then m) e
  rounds_settled zero n t e = go (wish above capacity book b s) refl
    where
      go : (x : Result Wish RoundFault) → wish above capacity book b s ≡ x → rounds above capacity book 0 b s ≡ Ok (n, t)
      go (Ok x) h = ap (λ y. y >>= no_more s) h ∙ no_more_settled s x n t (ap (granted s) (sym h) ∙ e)
      go (Err d) h = let f : ◌≡◌ {A = Result (Turn × State) RoundFault} (Err d) (Ok (Break n, t)) = ap (granted s) (sym h) ∙ e in let z : ◌≡◌ {A = ℕ} 0 1 = cc in absurd (omega arith)

  rounds_refused : (m : ℕ) (f : RoundFault) → round above capacity book b s ≡ Err f → rounds above capacity book m b s ≡ Err f
  rounds_refused (suc m) f e = ap (λ x. x >>= then m) e
  rounds_refused zero f e = go (wish above capacity book b s) refl
    where
      go : (x : Result Wish RoundFault) → wish above capacity book b s ≡ x → rounds above capacity book 0 b s ≡ Err f
      go (Ok x) h = ap (λ y. y >>= no_more s) h ∙ no_more_refused s x f (ap (granted s) (sym h) ∙ e)
      go (Err d) h = let g : ◌≡◌ {A = Result (Turn × State) RoundFault} (Err d) (Err f) = ap (granted s) (sym h) ∙ e in let m : d ≡ f = cc in ap (λ y. y >>= no_more s) h ∙ ap Err m

-- what settle comes to, by its rounds; so many lines may still be added where the last of them begins
module _ (above : Relation) (capacity : ℕ) (book : List Equation) (budget m b : ℕ) (s : State) (left : rounds above capacity book 512 budget blank ≡ rounds above capacity book m b s) where
  pub settle_settled : (n : ℕ) (t : State) → round above capacity book b s ≡ Ok (Break n, t) → settle above capacity book budget ≡ Ok (budget - n, t)
  settle_settled n t e = ap (λ x. x >>= λ y. Ok (budget - y.0, y.1)) (left ∙ rounds_settled above capacity book b s m n t e)

  pub settle_refused : (f : RoundFault) → round above capacity book b s ≡ Err f → settle above capacity book budget ≡ Err f
  settle_refused f e = ap (λ x. x >>= λ y. Ok (budget - y.0, y.1)) (left ∙ rounds_refused above capacity book b s m f e)
