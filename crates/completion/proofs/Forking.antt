-- The rule of a fork: what each way out of the call has shown.
use Rattle.std.proofs.Common.{◌≡◌, ℕ, ◌<◌, Bool, true, false, cond, List, [], ◌∷◌, ◌++◌, length, Ok, Err, Result, sym, refl, ap, ◌∙◌, subst, ap₂}
use Rattle.std.proofs.lemmas.Bool.{lt-ltb, cond-true, cond_both}
use Rattle.loads.specs.Answers.{◌>>=◌, check}
use Rattle.orders.specs.Laws.{Relation}
use Rattle.worksheet.specs.declared.rule.Rule.{Rule}
use Rattle.worksheet.specs.Derivations.{Derivation}
use Rattle.tables.specs.Placing.{without, enter}
use Rattle.questions.specs.declared.placed.Place.{Place}
use Rattle.questions.specs.declared.question.Bridge.{Bridge}
use Rattle.questions.specs.declared.question.Bridge.TheVariants.{Forward, Backward, Peak}
use Rattle.questions.specs.declared.question.Fork.{Fork}
use Rattle.questions.specs.Questions.{turned_bridge, Cited}
use Rattle.questions.specs.Asking.{Parting, turned_parting, parting_of, fork_of, turned_fork}
use Rattle.completion.specs.declared.fault.RoundFault.{RoundFault}
use Rattle.completion.specs.declared.fault.RoundFault.TheVariants.{NoRoom}
use Rattle.std.specs.declared.ops.ControlFlow.TheVariants.{Continue}
use Rattle.completion.specs.Room.{roomy}
use Rattle.completion.specs.States.{State}
use Rattle.completion.specs.Adding.{derived, oriented_fork, rule_of, admit}
use Rattle.completion.specs.Rounds.{Turn, a_line, granted, forked, next_line}

-- a bridge can be cited from its other end too
turned_cited : (b : Bridge) → Cited b → Cited (turned_bridge b)
turned_cited (Forward k) h = h
turned_cited (Backward k) h = h
turned_cited (Peak i j) h = (h.1, h.0)

-- g is the fork with the higher end first
module _ (above : Relation) (t : List Rule) (f g : Fork) (is : g ≡ oriented_fork above f) where
  pub oriented-counted : fork_of (parting_of t f) ≡ f → fork_of (parting_of t g) ≡ g
  oriented-counted e = subst (λ (x : Fork). fork_of (parting_of t x) ≡ x) (sym is) (cond_both (above f.first.end f.second.end) f (turned_fork f) (λ (x : Fork). fork_of (parting_of t x) ≡ x) (λ _. e) (λ _. ap turned_fork e))

  pub oriented_cited : Cited f.question.bridge → Cited g.question.bridge
  oriented_cited h =
      subst (λ (x : Fork). Cited x.question.bridge) (sym is)
      (cond_both (above f.first.end f.second.end) f (turned_fork f) (λ (x : Fork). Cited x.question.bridge) (λ _. h) (λ _. turned_cited f.question.bridge h))

module _ (above : Relation) (capacity n : ℕ) (f g : Fork) (s : State) (is : g ≡ oriented_fork above f) where
  -- what comes of a parting whose higher end is first
  abbrev by : (place : Place) (left : ℕ) → Parting → Result (Turn × State) RoundFault
  by place left p = granted s (admit above capacity place (rule_of (derived p).claim (next_line n s)) s.table >>= λ t'. Ok (a_line place (derived p) t' left))

  opened : forked above capacity n f s ≡ by g.question.place g.left (parting_of s.table g)
  opened = go (above f.first.end f.second.end) ∙ ap (λ h. by h.question.place h.left (parting_of s.table h)) (sym is)
    where
      go : (b : Bool)
          → by f.question.place f.left (cond b (parting_of s.table f) (turned_parting (parting_of s.table f)))
          ≡ by (cond b f (turned_fork f)).question.place (cond b f (turned_fork f)).left (parting_of s.table (cond b f (turned_fork f)))
      go true = refl
      go false = refl

  abbrev new : Derivation
  new = derived (parting_of s.table g)

  abbrev kept : List Rule
  kept = without g.first.end s.table

  module _ (h : length kept < capacity) where
    room_asked : (b : Bool) → roomy s.added (length new.chain) ≡ b
        → forked above capacity n f s
        ≡ (check b (NoRoom g.question.place) >>= λ _. Ok (Continue g.left, record { table = enter above (rule_of new.claim (next_line n s)) kept; added = s.added ++ (new ∷ []) }))
    room_asked b e = opened ∙ rw (lt-ltb (length kept) capacity h) (rw e refl)

    -- the worksheet has no room
    pub fork_no_room : roomy s.added (length new.chain) ≡ false → forked above capacity n f s ≡ Err (NoRoom g.question.place)
    fork_no_room = room_asked false

    -- the rule is added
    pub fork_added : roomy s.added (length new.chain) ≡ true
        → forked above capacity n f s ≡ Ok (Continue g.left, record { table = enter above (rule_of new.claim (next_line n s)) kept; added = s.added ++ (new ∷ []) })
    fork_added = room_asked true

    -- the state after it, as the code makes it: us is the table without what is removed, vs with the rule put in
    pub fork_left : (us vs : List Rule) (line : ℕ) (b : Bool) (ads : List Derivation)
        → us ≡ kept → b ≡ true → vs ≡ cond b (enter above (rule_of new.claim line) us) us → ads ≡ s.added ++ (new ∷ []) → line ≡ next_line n s
        → ◌≡◌ {A = State} (record { table = vs; added = ads }) (record { table = enter above (rule_of new.claim (next_line n s)) kept; added = s.added ++ (new ∷ []) })
    fork_left us vs line b ads is_us went is-vs is-ads is-line =
        ap₂ (λ x y. record { table = x; added = y })
        (is-vs ∙ cond-true b (enter above (rule_of new.claim line) us) us went ∙ ap₂ (λ l u. enter above (rule_of new.claim l) u) is-line is_us) is-ads
