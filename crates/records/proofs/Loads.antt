-- Steps of the loops that read a load.
use Rattle.std.proofs.Common.{◌≡◌, ℕ, zero, suc, ◌+◌, ◌-◌, ◌*◌, ◌/◌, ◌%◌, ◌<◌, ◌≤◌, ◌≢◌, List, [], ◌∷◌, ◌++◌, length, get_or, take, set, Some, None, Option, sym, refl, ap, ◌∙◌, append_assoc, append-nil, arith, length-set}
use lib.Count.{ones, ones_step}
use Rattle.std.proofs.lemmas.List.{take_more_set, take_all, get_or-set_other}
use Rattle.swapfile.specs.Bytes.{number_at}
use Rattle.swapfile.specs.StoredLoads.{if_set, counts_at, or_here, zero_from}

-- while a load is read at a byte, i counts were read and the bits p tell of those that are left, which stand at a place
pub record Reading (b cs : List ℕ) (i p place at : ℕ) : Type 0 where
  pub long : length cs ≡ 8
  pub within : place + 2 * ones p ≤ length b
  pub unread : (k : ℕ) → i ≤ k → k < 8 → get_or cs k 0 ≡ 0
  pub are : take i cs ++ counts_at b (8 - i) p place ≡ counts_at b 8 (get_or b at 0) (at + 1)

-- one count more
pub counts_more : (b cs cs' : List ℕ) (i p place at c next : ℕ) → Reading b cs i p place at → i < 8 → c ≡ if_set (p % 2) (number_at b place) → next ≡ place + 2 * (p % 2) → cs' ≡ set cs i c → Reading b cs' (i + 1) (p / 2) next at
unfolding counts_at
counts_more b cs cs' i p place at c next r h is goes wrote =
    let within : i < length cs = omega (arith, r.long) in
    let left : 8 - i ≡ suc (8 - (i + 1)) = omega arith in
    let rest = counts_at b (8 - (i + 1)) (p / 2) (place + 2 * (p % 2)) in
    record {
      long = ap length wrote ∙ length-set cs i c ∙ r.long;
      within = omega (arith, goes, ones_step p, r.within);
      unread = λ k later eight. let other : k ≢ i = omega arith in ap (λ xs. get_or xs k 0) wrote ∙ get_or-set_other cs i k c 0 other ∙ r.unread k (omega arith) eight;
      are = (λ j. take (i + 1) (wrote j) ++ counts_at b (8 - (i + 1)) (p / 2) (goes j))
          ∙ ap (λ xs. xs ++ rest) (take_more_set cs i c within)
          ∙ append_assoc (take i cs) (c ∷ []) rest
          ∙ ap (λ x. take i cs ++ (x ∷ rest)) is
          ∙ ap (λ k. take i cs ++ counts_at b k p place) (sym left)
          ∙ r.are;
    }

-- and in the end those that were read
pub counts_end : (b cs : List ℕ) (i p place at : ℕ) → Reading b cs i p place at → 8 ≤ i → cs ≡ counts_at b 8 (get_or b at 0) (at + 1)
unfolding counts_at
counts_end b cs i p place at r h =
    let none : 8 - i ≡ 0 = omega arith in
    sym (append-nil cs) ∙ (λ j. sym (take_all i cs (omega (arith, r.long))) j ++ counts_at b (sym none j) p place) ∙ r.are

-- the first count that is 0 is found, or is among the n that are left
module _ (b : List ℕ) (n at end : ℕ) (all : Option ℕ) (spans : at + 2 * n ≡ end) (so : zero_from b n at ≡ all) where
  pub zero_here : at < end → number_at b at ≡ 0 → Some at ≡ all
  unfolding zero_from
  zero_here h z = let left : n ≡ suc (n - 1) = omega arith in rw (left, z) at so

  pub zero_more : at < end → (number_at b at ≡ 0 → ⊥) → zero_from b (n - 1) (at + 2) ≡ all
  unfolding zero_from
  zero_more h z =
      let left : n ≡ suc (n - 1) = omega arith in
      skipped (number_at b at) at (zero_from b (n - 1) (at + 2)) z ∙ (rw left at so)
    where
      skipped : (c at : ℕ) (rest : Option ℕ) → (c ≡ 0 → ⊥) → rest ≡ or_here c at rest
      skipped zero at rest z = absurd (z refl)
      skipped (suc c) at rest z = refl

  pub zero_end : end ≤ at → None ≡ all
  unfolding zero_from
  zero_end h = let none : n ≡ 0 = omega arith in rw none at so
