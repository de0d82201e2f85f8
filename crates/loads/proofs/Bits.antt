-- The presence byte: its size, its bits set, and the bits that two have in common.
use Rattle.std.proofs.Common.{◌≡◌, ℕ, zero, suc, ◌+◌, ◌-◌, ◌*◌, ◌/◌, ◌%◌, ◌^◌, ◌<◌, ◌≤◌, min, not, eqb, ltb, List, reverse, [], ◌∷◌, length, get_or, drop, Decides, sum_by, sym, refl, ap, ap₂, ◌∙◌, inl, inr, lt_of_lt_of_le, pow-suc, arith, length-drop, pow_mono}
use mir.Val.{bool_byte}
use lib.Bits.{bit_and, and_step, and_zero_r}
use lib.Count.{ones, ones_step}
use Rattle.std.proofs.lemmas.List.{drop_more, get_or-reverse, length-reverse}
use Rattle.std.proofs.lemmas.Grind.{get_or_default_zero}
use Rattle.std.proofs.lemmas.List.Sums.{sum_by-cons}
use Rattle.std.proofs.lemmas.Bool.{cases_lt, lt-ltb}
use Rattle.std.proofs.lemmas.Bool.Decides.{Decides-eqb, Decides-like, Decides-not}
use Rattle.loads.specs.declared.Load.{Load}
use Rattle.loads.specs.Tests.{Contains, Share}
use Rattle.loads.specs.Bits.{bit, bits}
use Rattle.loads.specs.Presence.{presence}
use Rattle.loads.proofs.Algebra.{long}

pub bit_le : (c : ℕ) → bit c ≤ 1
bit_le zero = omega arith
bit_le (suc c) = omega arith

low : (c : ℕ) (cs : List ℕ) → bits (c ∷ cs) % 2 ≡ bit c
low c cs = omega (arith, bit_le c)

high : (c : ℕ) (cs : List ℕ) → bits (c ∷ cs) / 2 ≡ bits cs
high c cs = omega (arith, bit_le c)

bits_below : (cs : List ℕ) → bits cs < 2 ^ length cs
bits_below [] = omega arith
bits_below (c ∷ cs) = omega (arith, bit_le c, bits_below cs, pow-suc 2 (length cs))

-- the bits above the first of eight fit seven
pub bits-few : (cs : List ℕ) → length cs ≡ 8 → (i : ℕ) → 0 < i → bits (drop i cs) < 2 ^ 7
bits-few cs e i h =
    let short : length (drop i cs) ≤ 7 = omega (arith, length-drop i cs) in
    lt_of_lt_of_le (bits_below (drop i cs)) (pow_mono short)

-- the bit as the code reads it off the test
pub bit_of : (c : ℕ) → bool_byte (ltb 0 c) ≡ bit c
bit_of zero = refl
bit_of (suc c) = ap bool_byte (lt-ltb 0 (suc c) (omega arith))

-- one more bit, before the others
pub bits_more : (cs : List ℕ) (i : ℕ) → i < length cs → bits (drop i cs) ≡ bit (get_or cs i 0) + 2 * bits (drop (i + 1) cs)
bits_more cs i h = ap bits (drop_more cs i 0 h)

-- the same where a loop goes from the last count on, and has read n
pub bits_read : (cs : List ℕ) (n c : ℕ) → n < length (reverse cs) → c ≡ get_or (reverse cs) n c → bits (drop (length cs - (n + 1)) cs) ≡ bit c + 2 * bits (drop (length cs - n) cs)
bits_read cs n c h is =
    let k = length cs - (n + 1) in
    let l : n < length cs = omega (arith, length-reverse cs) in
    let e : k + 1 ≡ length cs - n = omega arith in
    let f : length cs - 1 - n ≡ k = omega arith in
    let read : c ≡ get_or cs k 0 = is ∙ get_or-reverse cs n c l ∙ ap (λ i. get_or cs i c) f ∙ get_or_default_zero cs k c (omega arith) in
    bits_more cs k (omega arith) ∙ ap₂ (λ m i. bit m + 2 * bits (drop i cs)) (sym read) e

-- the bits set are the kinds
pub ones-bits : (cs : List ℕ) → ones (bits cs) ≡ sum_by bit cs
unfolding ones
ones-bits [] = refl
ones-bits (c ∷ cs) = ones_step (bits (c ∷ cs)) ∙ rw (low c cs, high c cs, ones-bits cs, sum_by-cons bit c cs)

and_bits : (c d : ℕ) (cs ds : List ℕ) → bit_and (bits (c ∷ cs)) (bits (d ∷ ds)) ≡ bit_and (bits cs) (bits ds) * 2 + min (bit c) (bit d)
and_bits c d cs ds = and_step (bits (c ∷ cs)) (bits (d ∷ ds)) ∙ rw (low c cs, low d ds, high c cs, high d ds)

there : (c : ℕ) → 0 < c → bit c ≡ 1
there zero h = absurd (omega arith)
there (suc c) h = refl

not_there : (c : ℕ) → 0 < bit c → 0 < c
not_there zero h = h
not_there (suc c) h = omega arith

both-set : (cs ds : List ℕ) (k : ℕ) → 0 < get_or cs k 0 → 0 < get_or ds k 0 → 0 < bit_and (bits cs) (bits ds)
both-set [] ds k h g = absurd (omega arith)
both-set (c ∷ cs) [] k h g = absurd (omega arith)
both-set (c ∷ cs) (d ∷ ds) zero h g = omega (arith, and_bits c d cs ds, there c h, there d g)
both-set (c ∷ cs) (d ∷ ds) (suc k) h g = omega (arith, and_bits c d cs ds, both-set cs ds k h g)

set_both : (cs ds : List ℕ) → 0 < bit_and (bits cs) (bits ds) → (k : ℕ) × (0 < get_or cs k 0) × (0 < get_or ds k 0)
set_both [] ds h = absurd (omega arith)
set_both (c ∷ cs) [] h = absurd (omega (arith, and_zero_r (bits (c ∷ cs))))
set_both (c ∷ cs) (d ∷ ds) h = elim (cases_lt 0 (bit_and (bits cs) (bits ds))) [
  | inl l ↦ let s = set_both cs ds l in (suc s.0, s.1, s.2)
  | inr l ↦ (0, not_there c (omega (arith, and_bits c d cs ds)), not_there d (omega (arith, and_bits c d cs ds)))
]

bit_most : (c d : ℕ) → d ≤ c → min (bit c) (bit d) ≡ bit d
bit_most zero zero h = refl
bit_most zero (suc d) h = absurd (omega arith)
bit_most (suc c) zero h = refl
bit_most (suc c) (suc d) h = refl

-- where no count is smaller, no bit is missing
held : (cs ds : List ℕ) → length cs ≡ length ds → ((k : ℕ) → get_or ds k 0 ≤ get_or cs k 0) → bit_and (bits cs) (bits ds) ≡ bits ds
held [] [] e h = refl
held [] (d ∷ ds) e h = absurd (omega arith)
held (c ∷ cs) [] e h = absurd (omega arith)
held (c ∷ cs) (d ∷ ds) e h = omega (arith, and_bits c d cs ds, bit_most c d (h 0), held cs ds (omega arith) (λ k. h (suc k)))

-- a load has every article of a load that it contains
pub held-bits : (x y : Load) → Contains x y → bit_and (presence x) (presence y) ≡ presence y
held-bits x y = held x.counts y.counts (long x ∙ sym (long y))

-- two loads share an article exactly when their presence bytes share a bit
pub shared-bits : (x y : Load) → Decides (not (eqb (bit_and (presence x) (presence y)) 0)) (Share x y)
shared-bits x y =
    Decides-like _ (λ n. set_both x.counts y.counts (omega arith)) (λ s e. omega (arith, both-set x.counts y.counts s.0 s.1 s.2))
    (Decides-not (eqb (bit_and (presence x) (presence y)) 0) (Decides-eqb (bit_and (presence x) (presence y)) 0))
