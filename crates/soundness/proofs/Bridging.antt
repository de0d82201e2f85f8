-- The chain of each topic's question leads from its first load to its second.
use Rattle.std.proofs.Common.{◌≡◌, ℕ, suc, ◌+◌, Bool, true, false, List, [], ◌∷◌, ◌++◌, pos, Some, Ok, refl, subst, subst₂, arith}
use Rattle.std.specs.List.{AllByRecursion as All}
use Rattle.std.proofs.ByRecursion.{All-append}
use Rattle.loads.specs.declared.Load.{Load}
use Rattle.loads.specs.Loads.{plus, minus, shared}
use Rattle.loads.specs.Tests.{shares, fits}
use Rattle.loads.proofs.Algebra.{same, counts}
use Rattle.loads.proofs.Deciding.{fits_eight}
use Rattle.worksheet.specs.declared.equation.Equation.{Equation}
use Rattle.worksheet.specs.declared.rule.Rule.{Rule}
use Rattle.worksheet.specs.Claims.{turned, nth, named}
use Rattle.rewriting.specs.Swaps.{equation_of, Applies}
use Rattle.rewriting.specs.Settled.{reduct}
use Rattle.questions.specs.declared.question.Question.{Question}
use Rattle.questions.specs.Topics.{Topic, entry, peak, entries, peaks_with, peaks, topics}
use Rattle.questions.specs.Questions.{form}
use Rattle.soundness.specs.Sheets.{Small, Claimed}
use Rattle.soundness.proofs.Answering.{ok_same, went, unmarked}
use Rattle.soundness.proofs.Following.{Follows, stay, pass, named_back, named_all, nth_more}
use Rattle.soundness.proofs.Reducing.{sized_so}
use Rattle.soundness.proofs.Lines.{whole_applies}
use Rattle.soundness.proofs.Asking.{Bridged}

-- whatever question a topic leads to has its chain
abbrev pub Chained : List Equation → Topic → Type 0
Chained ls k = (q : Question) → form k ≡ Ok q → Bridged ls q

-- the sides of an equation, by its own line
entry-chained : (ls : List Equation) (k : ℕ) (e : Equation) → named ls (pos k) ≡ Some e → Small e → Chained ls (entry k e)
entry-chained ls k e n s q f = subst (Bridged ls) (ok_same f) (record { small_first = s.0; small_second = s.1; leads = pass n (whole_applies e) s.1 stay })

-- the peak of two rules fits where their left loads do
peak-fits : (l m : Load) → fits l ≡ true → fits m ≡ true → fits (minus (plus l m) (shared l m)) ≡ true
peak-fits l m f g = (fits_eight (minus (plus l m) (shared l m))).1 (λ k h. omega (counts, (fits_eight l).0 f k h, (fits_eight m).0 g k h))

module _ (ls : List Equation) (small : All Small ls) where
  claim_small : (r : Rule) → Claimed ls r → Small (equation_of r)
  claim_small r c = named_all Small (λ e f. (f.1, f.0)) ls (pos r.line) (equation_of r) small c

  -- over the peak: back along the one rule's line, on along the other's
  peak-chained : (i j : ℕ) (r s : Rule) → Claimed ls r → Claimed ls s → Chained ls (peak i r j s)
  peak-chained i j r s c d q f =
      let g = went _ _ _ f in
      let h = went _ _ _ g.then in
      let x = sized_so (reduct (equation_of r) (equation_of s)) g.got (unmarked _ _ _ g.first) in
      let y = sized_so (reduct (equation_of s) (equation_of r)) h.got (unmarked _ _ _ h.first) in
      let top = minus (plus r.left s.left) (shared r.left s.left) in
      let up : Applies (turned (equation_of r)) (reduct (equation_of r) (equation_of s)) top = record { fits = λ k. omega counts; gives = same (λ k. omega counts) } in
      let down : Applies (equation_of s) top (reduct (equation_of s) (equation_of r)) = record { fits = λ k. omega counts; gives = same (λ k. omega counts) } in
      let over : Follows ls _ (reduct (equation_of r) (equation_of s)) (reduct (equation_of s) (equation_of r)) =
      pass (named_back ls (pos r.line) (equation_of r) c) up (peak-fits r.left s.left (claim_small r c).0 (claim_small s d).0) (pass d down y.0 stay) in
      subst (Bridged ls) (ok_same h.then) (record {
        small_first = subst (λ (z : Load). fits z ≡ true) x.1 x.0;
        small_second = subst (λ (z : Load). fits z ≡ true) y.1 y.0;
        leads = subst₂ (Follows ls _) x.1 y.1 over;
      })

  with_chained : (i : ℕ) (r : Rule) (j : ℕ) (t : List Rule) → Claimed ls r → All (Claimed ls) t → All (Chained ls) (peaks_with i r j t)
  with_chained i r j [] c h = tt
  with_chained i r j (s ∷ t) c h = go (shares r.left s.left) (with_chained i r (j + 1) t c h.1)
    where
      go : (b : Bool) → All (Chained ls) (peaks_with i r (j + 1) t) → All (Chained ls) (elim b [ true ↦ peak i r j s ∷ peaks_with i r (j + 1) t | false ↦ peaks_with i r (j + 1) t ])
      go true ih = (peak-chained i j r s c h.0, ih)
      go false ih = ih

  peaks-chained : (i : ℕ) (t : List Rule) → All (Claimed ls) t → All (Chained ls) (peaks i t)
  peaks-chained i [] h = tt
  peaks-chained i (r ∷ t) h = All-append (Chained ls) (peaks_with i r (i + 1) t) (peaks (i + 1) t) (with_chained i r (i + 1) t h.0 h.1) (peaks-chained (i + 1) t h.1)

-- the equations from number j + 1 on, which stand in the lines from place j on
entries-chained : (ls : List Equation) (j : ℕ) (es : List Equation) → ((i : ℕ) (e : Equation) → nth es i ≡ Some e → nth ls (j + i) ≡ Some e) → All Small es
    → All (Chained ls) (entries (j + 1) es)
entries-chained ls j [] h s = tt
entries-chained ls j (e ∷ es) h s = (
  entry-chained ls (j + 1) e (let z : j + 1 ≡ suc (j + 0) = omega arith in rw z (h 0 e refl)) s.0,
  entries-chained ls (j + 1) es (λ i d m. let z : j + 1 + i ≡ j + suc i = omega arith in rw z (h (suc i) d m)) s.1,
)

-- every topic of a round
pub topics-chained : (book more : List Equation) (t : List Rule) → All Small book → All Small (book ++ more) → All (Claimed (book ++ more)) t → All (Chained (book ++ more)) (topics book t)
topics-chained book more t s f c =
    All-append (Chained (book ++ more)) (entries 1 book) (peaks 1 t)
    (entries-chained (book ++ more) 0 book (λ i e m. let z : 0 + i ≡ i = omega arith in rw z (nth_more book more i e m)) s) (peaks-chained (book ++ more) f 1 t c)
