-- A right load that some rule fits, and what each way out of its change has shown.
use Rattle.std.proofs.Common.{◌≡◌, ℕ, ◌+◌, ◌-◌, ◌<◌, Bool, true, false, cond, List, [], ◌∷◌, ◌++◌, length, get_or, drop, set, is_some, Some, Ok, Err, Result, sym, refl, ap, ◌∙◌, subst, ap₂, arith}
use Rattle.std.proofs.lemmas.List.{at_drop_more}
use Rattle.std.proofs.lemmas.Bool.{cond-true}
use Rattle.loads.specs.declared.Load.{Load}
use Rattle.loads.specs.Answers.{◌>>=◌, check, marked}
use Rattle.loads.specs.Tests.{contains}
use Rattle.worksheet.specs.declared.rule.Rule.{Rule}
use Rattle.worksheet.specs.Derivations.{Derivation}
use Rattle.rewriting.specs.declared.reduce.Reduced.{Reduced}
use Rattle.rewriting.specs.declared.reduce.StepFault.{StepFault}
use Rattle.rewriting.specs.Reducing.{fitting, search, Way, reduce, counted, told}
use Rattle.questions.specs.declared.placed.Place.{Place}
use Rattle.questions.specs.declared.question.Fork.{Fork}
use Rattle.questions.specs.Placed.{placed}
use Rattle.questions.specs.Asking.{reduce_at, way_of, parting_of, fork_of}
use Rattle.questions.proofs.Walking.{reduce_walked}
use Rattle.tables.specs.Trails.{trail}
use Rattle.completion.specs.declared.fault.RoundFault.TheVariants.{Step, NoRoom}
use Rattle.completion.specs.declared.found.Found.{Found}
use Rattle.std.specs.declared.ops.ControlFlow.TheVariants.{Continue}
use Rattle.completion.specs.Room.{roomy}
use Rattle.completion.specs.States.{State}
use Rattle.completion.specs.Adding.{derived, rule_of}
use Rattle.completion.specs.Changing.{unfinished, right_place, rederived, renewal}
use Rattle.completion.specs.Rounds.{a_line, granted, finished, next_line}

-- a place is found exactly when a rule fits
found_same : (t : List Rule) (a : Load) (i : ℕ) → is_some (search i t a) ≡ is_some (fitting t a)
found_same [] a i = refl
found_same (r ∷ t) a i = go (contains a r.left) refl (found_same t a (i + 1))
  where
    go : (b : Bool) → contains a r.left ≡ b → is_some (search (i + 1) t a) ≡ is_some (fitting t a) → is_some (search i (r ∷ t) a) ≡ is_some (fitting (r ∷ t) a)
    go true e ih = rw (e, search, fitting)
    go false e ih = rw (e, search, fitting) ih

-- the rule at the place i
module _ (t : List Rule) (i : ℕ) where
  module _ (r : Rule) (lt : i < length t) (read : r ≡ get_or t i r) where
    opened : (b : Bool) → is_some (search 0 t r.right) ≡ b → unfinished t i (drop i t) ≡ cond b (Some (record { place = i; rule = r })) (unfinished t (i + 1) (drop (i + 1) t))
    opened b e =
        at_drop_more (λ ys. unfinished t i ys) t i r lt
        ∙ ap (λ d. unfinished t i (d ∷ drop (i + 1) t)) (sym read)
        ∙ ap (λ b. cond b (Some (record { place = i; rule = r })) (unfinished t (i + 1) (drop (i + 1) t))) (sym (found_same t r.right 0) ∙ e)

    -- its right load is not finished
    pub unfinished_here : is_some (search 0 t r.right) ≡ true → unfinished t i (drop i t) ≡ Some (record { place = i; rule = r })
    unfinished_here = opened true

    -- it is
    pub unfinished_next : is_some (search 0 t r.right) ≡ false → unfinished t i (drop i t) ≡ unfinished t (i + 1) (drop (i + 1) t)
    unfinished_next = opened false

-- what is told of a reduction in t, as the code hears it of u, which has the same rules
pub told_at : (place : Place) (t u : List Rule) (b : ℕ) (a : Load) (x : Reduced) (y : Result Reduced StepFault) → Ok x ≡ marked (placed place) y → y ≡ told (reduce u b a) → u ≡ t
    → Ok x ≡ marked (placed place) (told (reduce t b a))
told_at place t u b a x y e f same = e ∙ ap (marked (placed place)) (f ∙ ap (λ v. told (reduce v b a)) same)

-- a reduction whose end and steps are told
module _ (place : Place) (t : List Rule) (b : ℕ) (a : Load) (x : Reduced) (is : Ok x ≡ marked (placed place) (told (reduce t b a))) where
  pub reduced_way : (reduce_at place t b a ≡ Ok (way_of t a x)) × (length (trail t x.steps a) ≡ x.steps)
  reduced_way = go (reduce t b a) refl
    where
      go : (y : Result Way StepFault) → reduce t b a ≡ y → (reduce_at place t b a ≡ Ok (way_of t a x)) × (length (trail t x.steps a) ≡ x.steps)
      go (Ok w) e =
          let d : Ok x ≡ marked (placed place) (told (Ok w)) = rw e at is in
          let same : counted w ≡ x = cc in
          let steps : length w.trail ≡ x.steps = ap (λ (y : Reduced). y.steps) same in
          let walked : trail t x.steps a ≡ w.trail = ap (λ n. trail t n a) (sym steps) ∙ reduce_walked place t b a w (ap (marked (placed place)) e) in
          (ap (marked (placed place)) e ∙ ap₂ (λ end trail. Ok (record { end = end; trail = trail })) (ap (λ (y : Reduced). y.end) same) (sym walked), ap length walked ∙ steps)
      go (Err f) e =
          let d : Ok x ≡ marked (placed place) (told (Err f)) = rw e at is in
          let z : ◌≡◌ {A = ℕ} 0 1 = cc in
          absurd (omega arith)

-- the change of the rule f, whose right load is told to come to x; h is the change as a fork
module _ (n b : ℕ) (f : Found) (s : State) (x : Reduced) (h : Fork) (is : Ok x ≡ marked (placed (right_place f.place)) (told (reduce s.table b f.rule.right)))
    (same : h ≡ renewal f.rule (right_place f.place) x (b - x.steps)) where
  -- it counts its steps
  pub renewal-counted : fork_of (parting_of s.table h) ≡ h
  renewal-counted =
      subst (λ (k : Fork). fork_of (parting_of s.table k) ≡ k) (sym same)
      (ap (λ k. renewal f.rule (right_place f.place) (record { end = x.end; steps = k }) (b - x.steps)) (reduced_way (right_place f.place) s.table b f.rule.right x is).1)

  -- the state after the change
  abbrev changed : Fork → State
  changed k = record { table = set s.table f.place (rule_of (derived (parting_of s.table k)).claim (next_line n s)); added = s.added ++ (derived (parting_of s.table k) ∷ []) }

  asked : (c : Bool) → roomy s.added (length (derived (parting_of s.table h)).chain) ≡ c
      → finished n b f s ≡ (check c (NoRoom (right_place f.place)) >>= λ _. Ok (Continue h.left, changed h))
  asked c e =
      let way = reduced_way (right_place f.place) s.table b f.rule.right x is in
      let r = renewal f.rule (right_place f.place) x (b - x.steps) in
      ap (λ y. granted s (marked Step y >>= λ w. Ok (a_line (right_place f.place) (rederived f.rule w) (set s.table f.place (rule_of (rederived f.rule w).claim (next_line n s))) (b - length w.trail)))) way.0
      ∙ ap (λ k. check (roomy s.added (length (derived (parting_of s.table r)).chain)) (NoRoom (right_place f.place)) >>= λ _. Ok (Continue (b - k), changed r)) way.1
      ∙ ap (λ k. check (roomy s.added (length (derived (parting_of s.table k)).chain)) (NoRoom (right_place f.place)) >>= λ _. Ok (Continue k.left, changed k)) (sym same)
      ∙ ap (λ d. check d (NoRoom (right_place f.place)) >>= λ _. Ok (Continue h.left, changed h)) e

  -- the rule is changed
  pub change_made : roomy s.added (length (derived (parting_of s.table h)).chain) ≡ true → finished n b f s ≡ Ok (Continue h.left, changed h)
  change_made = asked true

  -- the state after it, as the code makes it: vs is the table with the rule put in
  pub change-left : (t vs : List Rule) (line : ℕ) (c : Bool) (ads : List Derivation)
      → t ≡ s.table → c ≡ true → vs ≡ cond c (set t f.place (record { left = f.rule.left; right = x.end; line = line })) t
      → ads ≡ s.added ++ (derived (parting_of s.table h) ∷ []) → line ≡ next_line n s → ◌≡◌ {A = State} (record { table = vs; added = ads }) (changed h)
  change-left t vs line c ads is-t went is-vs is-ads is-line =
      let claim = ap (λ (k : Fork). rule_of (derived (parting_of s.table k)).claim line) (sym same) in
      ap₂ (λ u v. record { table = u; added = v })
      (is-vs ∙ cond-true c (set t f.place _) t went ∙ ap₂ (λ r u. set u f.place r) (claim ∙ ap (rule_of (derived (parting_of s.table h)).claim) is-line) is-t) is-ads
