-- What a comparison answers: a number laid over a relation, the counts in a row, and the two parts of a split.
use Rattle.std.proofs.Common.{◌≡◌, ℕ, ◌<◌, ◌≢◌, Bool, true, false, cond, eqb, ltb, List, [], ◌∷◌, map, reverse, Ordering, Less, Equal, Greater, nat_cmp, sym, refl, ap, ◌∙◌, ap₂, arith}
use Rattle.std.specs.List.{range_with_len}
use Rattle.std.specs.Ordering.{MatchOrdering, ordering_then}
use Rattle.std.specs.Cmp.Lexicographic.{slice_cmp}
use Rattle.std.proofs.lemmas.Bool.{eq-eqb, cond-true, false_from_ne_true}
use Rattle.std.proofs.lemmas.Bool.Decides.{nat_tests}
use Rattle.std.proofs.lemmas.Cmp.{ranked}
use Rattle.std.proofs.lemmas.List.FromFn.{fill_by_all}
use Rattle.loads.specs.declared.Load.{Load}
use Rattle.loads.specs.Loads.{at}
use Rattle.loads.specs.Tests.{alike}
use Rattle.loads.specs.Totals.{pieces}
use Rattle.loads.proofs.Algebra.{long}
use Rattle.loads.proofs.Deciding.{decides_false, alike_decides}
use Rattle.orders.specs.Comparing.{answer}
use Rattle.orders.specs.Laws.{Relation, is_first, is_second, is_third, Admissible}
use Rattle.orders.specs.Relations.{levelled, first_larger, turned, down, listed, bulk, part, split}

-- a number of each load, laid over a relation: the numbers are compared first
pub answer-levelled : (f : Load → ℕ) (below : Relation) (x y : Load) → answer (levelled f below) x y ≡ ordering_then (nat_cmp (f x) (f y)) (answer below x y)
answer-levelled f below x y = go (nat_cmp (f x) (f y)) (ranked (f x) (f y) (nat_cmp (f x) (f y)) refl)
  where
    go : (o : Ordering) → MatchOrdering o (f x < f y) (f x ≡ f y) (f y < f x) → answer (levelled f below) x y ≡ ordering_then o (answer below x y)
    go Less r = grind (arith, nat_tests)
    go Equal r = grind (arith, nat_tests)
    go Greater r = grind (arith, nat_tests)

-- What a comparison by a loop of its own needs: one relation laid over another, which answers where the loads are level.
module _ (level upper lower : Relation) (x y : Load) where
  over_level : level x y ≡ true → level y x ≡ true → answer (λ v w. cond (level v w) (lower v w) (upper v w)) x y ≡ answer lower x y
  over_level e f =
      ap₂ (λ b c. cond b Greater (cond c Less Equal)) (cond-true (level x y) (lower x y) (upper x y) e) (cond-true (level y x) (lower y x) (upper y x) f)

-- a number of each load, laid over a relation
module _ (f : Load → ℕ) (below : Relation) (x y : Load) where
  pub answer_level : f x ≡ f y → answer (levelled f below) x y ≡ answer below x y
  answer_level e = over_level (λ v w. eqb (f v) (f w)) (λ v w. ltb (f w) (f v)) below x y (eq-eqb (f x) (f y) e) (eq-eqb (f y) (f x) (sym e))

  pub answer-apart : (o : Ordering) → f x ≢ f y → MatchOrdering o (f x < f y) (f x ≡ f y) (f y < f x) → o ≡ answer (levelled f below) x y
  answer-apart o ne r = grind (arith, nat_tests)

-- the counts m and n at the first of the places qs, and the places ps after it
module _ (x y : Load) (i : ℕ) (qs ps : List ℕ) (first : qs ≡ i ∷ ps) {m n : ℕ} (at_x : m ≡ at x i) (at_y : n ≡ at y i) where
  pub place_level : m ≡ n → answer (first_larger qs) x y ≡ answer (first_larger ps) x y
  place_level e = ap (λ rs. answer (first_larger rs) x y) first ∙ answer_level (λ z. at z i) (first_larger ps) x y (sym at_x ∙ e ∙ at_y)

  pub place-apart : (o : Ordering) → m ≢ n → MatchOrdering o (m < n) (m ≡ n) (n < m) → o ≡ answer (first_larger qs) x y
  place-apart o ne r =
      answer-apart (λ z. at z i) (first_larger ps) x y o (rw (at_x, at_y) at ne) (rw (at_x, at_y) at r)
      ∙ ap (λ rs. answer (first_larger rs) x y) (sym first)

-- the counts at the places of a row, compared one after the other
pub answer-places : (ps : List ℕ) (x y : Load) → answer (first_larger ps) x y ≡ slice_cmp nat_cmp (map (at x) ps) (map (at y) ps)
answer-places [] x y = refl
answer-places (p ∷ ps) x y = answer-levelled (λ z. at z p) (first_larger ps) x y ∙ ap (ordering_then (nat_cmp (at x p) (at y p))) (answer-places ps x y)

counts_are : (x : Load) → x.counts ≡ map (at x) (range_with_len 0 8)
counts_are x = fill_by_all (at x) x.counts 8 0 (long x) (λ k l. refl)

-- listed compares the counts as they stand
pub answer-listed : (x y : Load) → slice_cmp nat_cmp x.counts y.counts ≡ answer listed x y
unfolding listed
answer-listed x y = ap₂ (slice_cmp nat_cmp) (counts_are x) (counts_are y) ∙ sym (answer-places (range_with_len 0 8) x y)

-- bulk compares the totals, and then the counts of the second load with those of the first, from the last on
pub answer-bulk : (x y : Load) → ordering_then (nat_cmp (pieces x) (pieces y)) (slice_cmp nat_cmp (reverse y.counts) (reverse x.counts)) ≡ answer bulk x y
unfolding bulk
answer-bulk x y =
    ap (ordering_then (nat_cmp (pieces x) (pieces y))) (ap₂ (slice_cmp nat_cmp) (ap reverse (counts_are y)) (ap reverse (counts_are x)) ∙ sym (answer-places (down 8) y x))
    ∙ sym (answer-levelled pieces (turned (first_larger (down 8))) x y)

-- the split order compares the marked parts, and then the unmarked ones
module _ (ms : List Bool) (first second : Relation) (laws : Admissible first) (x y : Load) where
  abbrev marked : Load → Load
  marked z = part ms true z

  alike_true : (v w : Load) → v ≡ w → alike v w ≡ true
  alike_true v w e = (alike_decides v w).1 e

  alike_false : (v w : Load) → ¬ (v ≡ w) → alike v w ≡ false
  alike_false v w ne = decides_false (alike v w) (alike_decides v w) ne

  pub answer-split : ordering_then (answer first (marked x) (marked y)) (answer second (part ms false x) (part ms false y)) ≡ answer (split ms first second) x y
  answer-split = elim (laws.one (marked x) (marked y)) [
    | is_first a b ne ↦ rw (a, alike_false (marked x) (marked y) ne) refl
    | is_second a b ne ↦
        rw (false_from_ne_true (first (marked x) (marked y)) a, b, alike_false (marked x) (marked y) ne, alike_false (marked y) (marked x) (λ e. ne (sym e))) refl
    | is_third a b e ↦
        rw (false_from_ne_true (first (marked x) (marked y)) a, false_from_ne_true (first (marked y) (marked x)) b, alike_true (marked x) (marked y) e, alike_true (marked y) (marked x) (sym e)) refl
  ]
