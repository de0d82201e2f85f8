-- Questions asked one at a time.
use Rattle.std.proofs.Common.{◌≡◌, ℕ, ◌+◌, ◌<◌, true, false, List, [], ◌∷◌, ◌++◌, length, get_or, drop, Ok, Err, Result, sym, refl, ap, ◌∙◌, arith}
use Rattle.std.proofs.lemmas.List.{at_drop_more}
use Rattle.loads.specs.Answers.{◌>>=◌}
use Rattle.loads.specs.Tests.{shares}
use Rattle.worksheet.specs.declared.equation.Equation.{Equation}
use Rattle.worksheet.specs.declared.rule.Rule.{Rule}
use Rattle.rewriting.specs.declared.reduce.StepFault.{StepFault}
use Rattle.questions.specs.declared.placed.Placed.{Placed}
use Rattle.questions.specs.declared.question.Question.{Question}
use Rattle.questions.specs.declared.question.Stop.{Stop}
use Rattle.questions.specs.declared.question.Stop.TheVariants.{Step}
use Rattle.questions.specs.Topics.{Topic, peak, entries, peaks_with, peaks, topics}
use Rattle.questions.specs.Questions.{form}
use Rattle.questions.specs.Asking.{Ending, met, apart, ask, go_on, ask_all, outcome}

abbrev Told : Type 0
Told = Result ℕ Stop

-- where all met so far, go on
abbrev pub onward : (ℕ → Told) → Told → Told
onward g x = x >>= g

told_then : (f : ℕ → Result Ending (Placed StepFault)) (x : Result Ending (Placed StepFault)) → outcome (x >>= go_on f) ≡ onward (λ n. outcome (f n)) (outcome x)
told_then f (Ok (met n)) = refl
told_then f (Ok (apart p)) = refl
told_then f (Err e) = refl

module _ (t : List Rule) where
  -- what is told of asking about these topics with a budget
  abbrev asks : List Topic → ℕ → Told
  asks ks n = outcome (ask_all t n ks)

  module _ (ls ks : List Topic) (ih : (n : ℕ) → asks (ks ++ ls) n ≡ onward (asks ls) (asks ks n)) where
    append_asked : (x : Result Ending (Placed StepFault)) → outcome (x >>= go_on (λ left. ask_all t left (ks ++ ls))) ≡ onward (asks ls) (outcome (x >>= go_on (λ left. ask_all t left ks)))
    append_asked (Ok (met n)) = ih n
    append_asked (Ok (apart p)) = refl
    append_asked (Err e) = refl

    append_formed : (b : ℕ) (x : Result Question (Placed StepFault))
        → outcome (x >>= λ q. ask t b q >>= go_on (λ left. ask_all t left (ks ++ ls))) ≡ onward (asks ls) (outcome (x >>= λ q. ask t b q >>= go_on (λ left. ask_all t left ks)))
    append_formed b (Ok q) = append_asked (ask t b q)
    append_formed b (Err e) = refl

  -- topics after others
  pub asks_append : (ls ks : List Topic) (b : ℕ) → asks (ks ++ ls) b ≡ onward (asks ls) (asks ks b)
  asks_append ls [] b = refl
  asks_append ls (k ∷ ks) b = append_formed ls ks (asks_append ls ks) b (form k)

  -- the pair of the rule r at the place i and the rule at j among those after it
  module _ (i : ℕ) (r : Rule) (after : List Rule) (b j : ℕ) where
    -- what is told of the pairs from j on
    abbrev pub row : (j n : ℕ) → Told
    row j n = asks (peaks_with i r (i + 1 + j) (drop j after)) n

    module _ (s : Rule) (lt : j < length after) (read : s ≡ get_or after j s) where
      row_open : row j b ≡ asks (peaks_with i r (i + 1 + j) (s ∷ drop (j + 1) after)) b
      row_open = at_drop_more (λ ys. asks (peaks_with i r (i + 1 + j) ys) b) after j s lt ∙ ap (λ d. asks (peaks_with i r (i + 1 + j) (d ∷ drop (j + 1) after)) b) (sym read)

      further : i + 1 + j + 1 ≡ i + 1 + (j + 1)
      further = omega arith

      -- nothing is shared
      pub row_skip : shares r.left s.left ≡ false → row j b ≡ row (j + 1) b
      row_skip e = row_open ∙ rw (e, peaks_with, further)

      after_form : Result Question (Placed StepFault) → Told
      after_form x = outcome (x >>= λ q. ask t b q >>= go_on (λ left. ask_all t left (peaks_with i r (i + 1 + (j + 1)) (drop (j + 1) after))))

      row-take : shares r.left s.left ≡ true → row j b ≡ after_form (form (peak i r (i + 1 + j) s))
      unfolding after_form
      row-take e = row_open ∙ rw (e, peaks_with, further)

      -- a load of the pair cannot be formed
      pub row_unformed : shares r.left s.left ≡ true → (f : Placed StepFault) → Err f ≡ form (peak i r (i + 1 + j) s) → row j b ≡ Err (Step f)
      unfolding after_form
      row_unformed e f h = row-take e ∙ ap after_form (sym h)

      -- the question is asked, and then the rest of the row
      pub row_next : shares r.left s.left ≡ true → (q : Question) → Ok q ≡ form (peak i r (i + 1 + j) s) → row j b ≡ onward (row (j + 1)) (outcome (ask t b q))
      unfolding after_form
      row_next e q h = row-take e ∙ ap after_form (sym h) ∙ told_then (λ left. ask_all t left (peaks_with i r (i + 1 + (j + 1)) (drop (j + 1) after))) (ask t b q)

  -- the row of the rule at the place i + 1, then the rows after it
  module _ (b i : ℕ) where
    pub peaks_next : (r : Rule) (after : List Rule) → i < length t → r ≡ get_or t i r → after ≡ drop (i + 1) t
        → asks (peaks (i + 1) (drop i t)) b ≡ onward (asks (peaks (i + 1 + 1) (drop (i + 1) t))) (asks (peaks_with (i + 1) r (i + 1 + 1) after) b)
    peaks_next r after lt read rest =
        at_drop_more (λ ys. asks (peaks (i + 1) ys) b) t i r lt
        ∙ ap (λ d. asks (peaks (i + 1) (d ∷ drop (i + 1) t)) b) (sym read)
        ∙ asks_append (peaks (i + 1 + 1) (drop (i + 1) t)) (peaks_with (i + 1) r (i + 1 + 1) (drop (i + 1) t)) b
        ∙ ap (λ ys. onward (asks (peaks (i + 1 + 1) (drop (i + 1) t))) (asks (peaks_with (i + 1) r (i + 1 + 1) ys) b)) (sym rest)

-- the equations, then the pairs, as the code reads them from the book and the table
pub asks_all : (t u : List Rule) (es ds : List Equation) (b : ℕ) → u ≡ t → ds ≡ es
    → outcome (ask_all t b (topics es t)) ≡ onward (λ n. outcome (ask_all u n (peaks 1 u))) (outcome (ask_all u b (entries 1 ds)))
asks_all t u es ds b p q = rw (p, q) (asks_append t (peaks 1 t) (entries 1 es) b)
