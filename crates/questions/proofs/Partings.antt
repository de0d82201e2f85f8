-- What a question that ends apart has shown: its ways are those that the table leads, and the lines that it passes can be cited.
use Rattle.std.proofs.Common.{◌≡◌, ℕ, ◌+◌, ◌-◌, ◌≤◌, Bool, true, false, List, [], ◌∷◌, ◌++◌, length, IfOk, Ok, Err, Result, refl, arith}
use Rattle.loads.specs.Answers.{marked}
use Rattle.loads.specs.Tests.{alike, shares}
use Rattle.worksheet.specs.declared.equation.Equation.{Equation}
use Rattle.worksheet.specs.declared.rule.Rule.{Rule}
use Rattle.rewriting.specs.declared.reduce.StepFault.{StepFault}
use Rattle.rewriting.specs.Reducing.{sized}
use Rattle.rewriting.specs.Swaps.{equation_of}
use Rattle.rewriting.specs.Settled.{reduct}
use Rattle.tables.specs.Citing.{citable}
use Rattle.tables.proofs.Citing.{citable_parts}
use Rattle.questions.specs.declared.placed.Place.TheVariants.{Pair}
use Rattle.questions.specs.declared.placed.Placed.{Placed}
use Rattle.questions.specs.declared.question.Question.{Question}
use Rattle.questions.specs.declared.question.Fork.{Fork}
use Rattle.questions.specs.declared.question.Stop.TheVariants.{Forked}
use Rattle.questions.specs.Placed.{placed}
use Rattle.questions.specs.Topics.{Topic, entry, peak, entries, peaks_with, peaks, topics}
use Rattle.questions.specs.Questions.{form, Cited}
use Rattle.questions.specs.Asking.{Parting, Ending, met, apart, ending, reduce_at, ask, go_on, ask_all, fork_of, outcome}
use Rattle.questions.proofs.Answering.{made_bind, made_at}
use Rattle.questions.proofs.Walking.{Walked, reduce_walked}

-- a chain can cite the lines of a topic
abbrev Cites : Topic → Type 0
Cites (entry k e) = k ≤ 544
Cites (peak i r j s) = (r.line ≤ 544) × (s.line ≤ 544)

-- and of each of a row
abbrev AllCite : List Topic → Type 0
AllCite [] = Unit {0}
AllCite (k ∷ ks) = Cites k × AllCite ks

cite_append : (ks ls : List Topic) → AllCite ks → AllCite ls → AllCite (ks ++ ls)
cite_append [] ls h g = g
cite_append (k ∷ ks) ls h g = (h.0, cite_append ks ls h.1 g)

cite_entries : (k : ℕ) (es : List Equation) → k + length es ≤ 544 → AllCite (entries k es)
cite_entries k [] h = tt
cite_entries k (e ∷ es) h = (omega arith, cite_entries (k + 1) es (omega arith))

cite_with : (i : ℕ) (r : Rule) (j : ℕ) (t : List Rule) → r.line ≤ 544 → citable t ≡ true → AllCite (peaks_with i r j t)
cite_with i r j [] h c = tt
cite_with i r j (s ∷ t) h c = let p = citable_parts s t c in go (shares r.left s.left) refl p.0 (cite_with i r (j + 1) t h p.1)
  where
    go : (b : Bool) → shares r.left s.left ≡ b → s.line ≤ 544 → AllCite (peaks_with i r (j + 1) t) → AllCite (peaks_with i r j (s ∷ t))
    go true e l ih = rw (e, peaks_with) ((h, l), ih)
    go false e l ih = rw (e, peaks_with) ih

cite_peaks : (i : ℕ) (t : List Rule) → citable t ≡ true → AllCite (peaks i t)
cite_peaks i [] c = tt
cite_peaks i (r ∷ t) c =
    let p = citable_parts r t c in
    cite_append (peaks_with i r (i + 1) t) (peaks (i + 1) t) (cite_with i r (i + 1) t p.0 p.1) (cite_peaks (i + 1) t p.1)

-- the question of a topic passes the lines of the topic
form_cited : (k : Topic) → Cites k → IfOk (form k) (λ (q : Question). Cited q.bridge)
form_cited (entry k e) h = h
form_cited (peak i r j s) h =
    made_bind cited (marked (placed (Pair i j)) (sized (reduct (equation_of r) (equation_of s)))) _ (λ x _.
    made_bind cited (marked (placed (Pair i j)) (sized (reduct (equation_of s) (equation_of r)))) _ (λ y _. h))
  where
    cited : Question → Type 0
    cited q = Cited q.bridge

-- what a parting has shown
pub record Parted (t : List Rule) (p : Parting) : Type 0 where
  pub first : Walked t p.question.first p.first
  pub second : Walked t p.question.second p.second
  pub cited : Cited p.question.bridge

-- nothing is asked of an ending in which all met
abbrev Shown : List Rule → Ending → Type 0
Shown t (met left) = Unit {0}
Shown t (apart p) = Parted t p

shown-ending : (t : List Rule) (p : Parting) → Parted t p → Shown t (ending p)
shown-ending t p h = go (alike p.first.end p.second.end) refl
  where
    go : (b : Bool) → alike p.first.end p.second.end ≡ b → Shown t (ending p)
    go true e = rw (e, ending) tt
    go false e = rw (e, ending) h

shown-ask : (t : List Rule) (b : ℕ) (q : Question) → Cited q.bridge → IfOk (ask t b q) (Shown t)
shown-ask t b q h =
    made_bind (Shown t) (reduce_at q.place t b q.first) _ (λ v e.
    made_bind (Shown t) (reduce_at q.place t (b - length v.trail) q.second) _ (λ w f.
    shown-ending t (record { question = q; first = v; second = w; left = b - length v.trail - length w.trail })
    (record { first = reduce_walked q.place t b q.first v e; second = reduce_walked q.place t (b - length v.trail) q.second w f; cited = h })))

shown_on : (t : List Rule) (f : ℕ → Result Ending (Placed StepFault)) → ((n : ℕ) → IfOk (f n) (Shown t)) → (o : Ending) → Shown t o → IfOk (go_on f o) (Shown t)
shown_on t f h (met left) s = h left
shown_on t f h (apart p) s = s

shown_all : (t : List Rule) (b : ℕ) (ks : List Topic) → AllCite ks → IfOk (ask_all t b ks) (Shown t)
shown_all t b [] h = tt
shown_all t b (k ∷ ks) h =
    made_bind (Shown t) (form k) _ (λ q e.
    made_bind (Shown t) (ask t b q) _ (λ o f.
    shown_on t (λ left. ask_all t left ks) (λ n. shown_all t n ks h.1) o (made_at (Shown t) (ask t b q) o f (shown-ask t b q (made_at (λ (x : Question). Cited x.bridge) (form k) q e (form_cited k h.0))))))

-- the parting that a fork tells of
pub record ToldOf (t : List Rule) (b : ℕ) (book : List Equation) (f : Fork) : Type 0 where
  pub parting : Parting
  pub ends : ask_all t b (topics book t) ≡ Ok (apart parting)
  pub fork : f ≡ fork_of parting
  pub shown : Parted t parting

pub told_of : (t : List Rule) (b : ℕ) (book : List Equation) (f : Fork) → length book ≤ 32 → citable t ≡ true → Err (Forked f) ≡ outcome (ask_all t b (topics book t)) → ToldOf t b book f
told_of t b book f few c e = go (ask_all t b (topics book t)) refl
  where
    all : IfOk (ask_all t b (topics book t)) (Shown t)
    all = shown_all t b (topics book t) (cite_append (entries 1 book) (peaks 1 t) (cite_entries 1 book (omega arith)) (cite_peaks 1 t c))

    go : (x : Result Ending (Placed StepFault)) → ask_all t b (topics book t) ≡ x → ToldOf t b book f
    go (Ok (met left)) g = let d : Err (Forked f) ≡ outcome (Ok (met left)) = rw g at e in let z : ◌≡◌ {A = ℕ} 0 1 = cc in absurd (omega arith)
    go (Ok (apart p)) g =
        let d : Err (Forked f) ≡ outcome (Ok (apart p)) = rw g at e in
        record { parting = p; ends = g; fork = cc; shown = made_at (Shown t) (ask_all t b (topics book t)) (apart p) g all }
    go (Err x) g = let d : Err (Forked f) ≡ outcome (Err x) = rw g at e in let z : ◌≡◌ {A = ℕ} 0 1 = cc in absurd (omega arith)
