-- What the rounds end with is a settled table in the sense of the theory.
use Rattle.std.proofs.Common.{◌≡◌, ℕ, zero, suc, ◌+◌, ◌<◌, Bool, true, false, List, [], ◌∷◌, ◌++◌, length, pos, None, Ok, sym, refl, ap, subst, subst₂, inl, inr, arith}
use Rattle.std.specs.List.{AllByRecursion as All}
use Rattle.std.proofs.ByRecursion.{All-weaker}
use Rattle.std.proofs.lemmas.Bool.{both_ways}
use Rattle.loads.specs.declared.Load.{Load}
use Rattle.loads.specs.Tests.{Contains, contains, Share, shares}
use Rattle.loads.proofs.Deciding.{contains_decides, shares_decides}
use Rattle.orders.specs.Laws.{Relation}
use Rattle.worksheet.specs.declared.equation.Equation.{Equation}
use Rattle.worksheet.specs.declared.rule.Rule.{Rule}
use Rattle.rewriting.specs.Swaps.{equation_of, equations, In, Standard, Meet}
use Rattle.rewriting.specs.Settled.{place, reduct}
use Rattle.rewriting.specs.Reducing.{fitting}
use Rattle.rewriting.proofs.Moves.{joined_back}
use Rattle.questions.specs.declared.question.Question.{Question}
use Rattle.questions.specs.Topics.{Topic, entry, peak, entries, peaks_with, peaks}
use Rattle.questions.specs.Questions.{form}
use Rattle.questions.specs.Asking.{Parting}
use Rattle.completion.specs.States.{State}
use Rattle.soundness.specs.Sheets.{lines, FollowsFrom, Claimed}
use Rattle.soundness.specs.Sound.{Sound, RoundsAreSound}
use Rattle.soundness.proofs.Answering.{ok_same, went, unmarked}
use Rattle.soundness.proofs.Following.{named_all}
use Rattle.soundness.proofs.Reducing.{sized_so, reduced_reduces, none_contained}
use Rattle.soundness.proofs.Lines.{lines-follow}
use Rattle.soundness.proofs.Ordering.{Ordered}
use Rattle.soundness.proofs.Asking.{Tried, AllMet, no_more, one_more}
use Rattle.soundness.proofs.Keeping.{in_all, falls_all}
use Rattle.soundness.proofs.Ending.{Finished, settle-finished}

-- what a topic asks is so
abbrev Meeting : List Rule → Topic → Type 0
Meeting t (entry k e) = Meet (equations t) e.left e.right
Meeting t (peak i r j s) = Meet (equations t) (reduct (equation_of r) (equation_of s)) (reduct (equation_of s) (equation_of r))

-- reductions to one end meet
tried_meet : {t : List Rule} {q : Question} {p : Parting} {b : ℕ} → Tried t q p b → p.first.end ≡ p.second.end → Meet (equations t) q.first q.second
tried_meet {t} {q} {p} w e = record { end = p.second.end; first = rw e at (reduced_reduces w.came_first).0; second = (reduced_reduces w.came_second).0 }

topic_meets : (t : List Rule) (k : Topic) (q : Question) → form k ≡ Ok q → Meet (equations t) q.first q.second → Meeting t k
topic_meets t (entry k e) q f m = subst (λ (q : Question). Meet (equations t) q.first q.second) (sym (ok_same f)) m
topic_meets t (peak i r j s) q f m =
    let g = went _ _ _ f in
    let h = went _ _ _ g.then in
    let x = sized_so (reduct (equation_of r) (equation_of s)) g.got (unmarked _ _ _ g.first) in
    let y = sized_so (reduct (equation_of s) (equation_of r)) h.got (unmarked _ _ _ h.first) in
    subst₂ (Meet (equations t)) (sym x.1) (sym y.1) (subst (λ (q : Question). Meet (equations t) q.first q.second) (sym (ok_same h.then)) m)

all_meet : {t : List Rule} {ks : List Topic} {n : ℕ} → AllMet t ks n → All (Meeting t) ks
all_meet no_more = tt
all_meet {t} (one_more {k = k} q p f w e h) = (topic_meets t k q f (tried_meet w e), all_meet h)

all_split : (P : Topic → Type 0) (xs ys : List Topic) → All P (xs ++ ys) → All P xs × All P ys
all_split P [] ys h = (tt, h)
all_split P (x ∷ xs) ys h = let r = all_split P xs ys h.1 in ((h.0, r.0), r.1)

entries_meet : (t : List Rule) (k : ℕ) (es : List Equation) → All (Meeting t) (entries k es) → (e : Equation) → In e es → Meet (equations t) e.left e.right
entries_meet t k [] h e m = absurd m
entries_meet t k (d ∷ es) h e (inl q) = rw q h.0
entries_meet t k (d ∷ es) h e (inr m) = entries_meet t (k + 1) es h.1 e m

-- one rule's pairs with those after it
with_meets : (t : List Rule) (i : ℕ) (r : Rule) (j : ℕ) (rest : List Rule) → All (Meeting t) (peaks_with i r j rest) → (b : ℕ) → b < length (equations rest)
    → Share r.left (place (equations rest) b).left → Meet (equations t) (reduct (equation_of r) (place (equations rest) b)) (reduct (place (equations rest) b) (equation_of r))
with_meets t i r j [] h b l s = absurd (omega arith)
with_meets t i r j (u ∷ rest) h b l s = go (shares r.left u.left) refl h (with_meets t i r (j + 1) rest) b l s
  where
    go : (d : Bool) → shares r.left u.left ≡ d → All (Meeting t) (elim d [ true ↦ peak i r j u ∷ peaks_with i r (j + 1) rest | false ↦ peaks_with i r (j + 1) rest ])
        → (All (Meeting t) (peaks_with i r (j + 1) rest) → (b : ℕ) → b < length (equations rest) → Share r.left (place (equations rest) b).left
        → Meet (equations t) (reduct (equation_of r) (place (equations rest) b)) (reduct (place (equations rest) b) (equation_of r)))
        → (b : ℕ) → b < length (equations (u ∷ rest)) → Share r.left (place (equations (u ∷ rest)) b).left
        → Meet (equations t) (reduct (equation_of r) (place (equations (u ∷ rest)) b)) (reduct (place (equations (u ∷ rest)) b) (equation_of r))
    go true e h ih zero l s = h.0
    go true e h ih (suc b) l s = ih h.1 b (omega arith) s
    go false e h ih zero l s = absurd (both_ways _ e ((shares_decides r.left u.left).1 s))
    go false e h ih (suc b) l s = ih h b (omega arith) s

peaks_meet : (t : List Rule) (i : ℕ) (rest : List Rule) → All (Meeting t) (peaks i rest) → (a b : ℕ) → a < b → b < length (equations rest)
    → Share (place (equations rest) a).left (place (equations rest) b).left
    → Meet (equations t) (reduct (place (equations rest) a) (place (equations rest) b)) (reduct (place (equations rest) b) (place (equations rest) a))
peaks_meet t i [] h a b l m s = absurd (omega arith)
peaks_meet t i (r ∷ rest) h zero zero l m s = absurd (omega arith)
peaks_meet t i (r ∷ rest) h zero (suc b) l m s = with_meets t i r (i + 1) rest (all_split (Meeting t) (peaks_with i r (i + 1) rest) (peaks (i + 1) rest) h).0 b (omega arith) s
peaks_meet t i (r ∷ rest) h (suc a) zero l m s = absurd (omega arith)
peaks_meet t i (r ∷ rest) h (suc a) (suc b) l m s =
    peaks_meet t (i + 1) rest (all_split (Meeting t) (peaks_with i r (i + 1) rest) (peaks (i + 1) rest) h).1 a b (omega arith) (omega arith) s

all_place : (P : Equation → Type 0) (t : List Rule) → All (λ (r : Rule). P (equation_of r)) t → (j : ℕ) → j < length (equations t) → P (place (equations t) j)
all_place P [] h j l = absurd (omega arith)
all_place P (r ∷ t) h zero l = h.0
all_place P (r ∷ t) h (suc j) l = all_place P t h.1 j (omega arith)

-- a rule later than one with the left load a, as an equation
abbrev LaterEquation : Relation → Load → Equation → Type 0
LaterEquation above a e = (above e.left a ≡ true) × ((contains e.left a ≡ false) × (contains a e.left ≡ false))

lefts-apart : (above : Relation) (t : List Rule) → Ordered above t → (i j : ℕ) → i < length (equations t) → j < length (equations t) → (i ≡ j → ⊥)
    → Contains (place (equations t) i).left (place (equations t) j).left → ⊥
lefts-apart above [] o i j l m n c = omega arith
lefts-apart above (r ∷ t) o zero zero l m n c = n refl
lefts-apart above (r ∷ t) o zero (suc j) l m n c =
    both_ways _ (all_place (LaterEquation above r.left) t o.0 j (omega arith)).1.1 ((contains_decides r.left (place (equations t) j).left).1 c)
lefts-apart above (r ∷ t) o (suc i) zero l m n c =
    both_ways _ (all_place (LaterEquation above r.left) t o.0 i (omega arith)).1.0 ((contains_decides (place (equations t) i).left r.left).1 c)
lefts-apart above (r ∷ t) o (suc i) (suc j) l m n c = lefts-apart above t o.1 i j (omega arith) (omega arith) (λ e. n (ap suc e)) c

lefts_rise : (above : Relation) (t : List Rule) → Ordered above t → (i : ℕ) → suc i < length (equations t) → above (place (equations t) (suc i)).left (place (equations t) i).left ≡ true
lefts_rise above [] o i l = absurd (omega arith)
lefts_rise above (r ∷ t) o zero l = (all_place (LaterEquation above r.left) t o.0 0 (omega arith)).0
lefts_rise above (r ∷ t) o (suc i) l = lefts_rise above t o.1 i (omega arith)

-- a load that no rule fits is standard
unfit-standard : (t : List Rule) (a : Load) → All (λ (r : Rule). contains a r.left ≡ false) t → Standard (equations t) a
unfit-standard [] a h r m f = m
unfit-standard (s ∷ t) a h r (inl e) f = both_ways _ h.0 ((contains_decides a s.left).1 (rw e at f))
unfit-standard (s ∷ t) a h r (inr m) f = unfit-standard t a h.1 r m f

-- a finished state is sound
pub finished-sound : (above : Relation) (book : List Equation) (s : State) (n : ℕ) → Finished above book s n → Sound above book s
finished-sound above book s n z =
    let t = s.table in
    let k = z.kept in
    let q = all_split (Meeting t) (entries 1 book) (peaks 1 t) (all_meet z.all) in
    let sheet = lines-follow book s.added k.replay in
    record {
      table = record {
        complete = record {
          falls = falls_all above t k.falls;
          follows = in_all (FollowsFrom book) t (All-weaker (Claimed (lines book s.added)) (λ (r : Rule). FollowsFrom book (equation_of r))
              (λ r c. named_all (FollowsFrom book) (λ e j. joined_back j) (lines book s.added) (pos r.line) (equation_of r) sheet c) t k.claimed);
          equations = entries_meet t 1 book q.0;
          pairs = peaks_meet t 1 t q.1;
        };
        lefts = lefts-apart above t k.ordered;
        rights = in_all (λ (e : Equation). Standard (equations t) e.right) t
            (All-weaker (λ (r : Rule). fitting t r.right ≡ None) (λ (r : Rule). Standard (equations t) r.right) (λ r e. unfit-standard t r.right (none_contained t r.right e)) t z.rights);
        rising = lefts_rise above t k.ordered;
      };
      replay = k.replay;
      follow = sheet;
      claimed = k.claimed;
    }

pub rounds_are_sound : RoundsAreSound
rounds_are_sound above laws book small capacity budget steps s e = finished-sound above book s steps (settle-finished above laws book small capacity budget steps s e)
