-- A load that is written is read back, and nothing else reads as it.
use Rattle.std.proofs.Common.{◌≡◌, ℕ, zero, suc, ◌+◌, ◌*◌, ◌/◌, ◌%◌, ◌^◌, ◌<◌, ◌≤◌, true, List, [], ◌∷◌, length, get_or, None, Option, sym, refl, ap, ◌∙◌, subst, pow-suc, zero-add, arith, length-append}
use native.Mathlib.Nat.{pow-zero}
use lib.Count.{ones, ones_step}
use Rattle.loads.specs.declared.Load.{Load}
use Rattle.loads.specs.Bits.{bit, bits}
use Rattle.loads.specs.Loads.{of_counts}
use Rattle.loads.specs.Tests.{fits}
use Rattle.loads.proofs.Algebra.{long, same, at-of_counts}
use Rattle.loads.proofs.Bits.{bit_le}
use Rattle.loads.proofs.Deciding.{fits_eight}
use Rattle.swapfile.specs.Bytes.{Bytes, number_at, number_bytes}
use Rattle.swapfile.specs.StoredLoads.{count_bytes, counts_bytes, load_bytes, load_size, if_set, counts_at, load_at, or_here, zero_from, load_zero}
use Rattle.swapfile.proofs.Standing.{Stands, moved, parts, joins, number_back, number_forth, number_below}

-- a count that is there takes two bytes
count_long : (c : ℕ) → length (count_bytes c) ≡ 2 * bit c
count_long zero = refl
count_long (suc c) = refl

-- one bit more that is set or not
ones_bit : (c q : ℕ) → ones (bit c + 2 * q) ≡ bit c + ones q
ones_bit c q =
    let low : (bit c + 2 * q) % 2 ≡ bit c = omega (arith, bit_le c) in
    let high : (bit c + 2 * q) / 2 ≡ q = omega (arith, bit_le c) in
    ones_step (bit c + 2 * q) ∙ rw (low, high)

-- the bits set tell how many bytes the counts take
pub counts_long : (cs : List ℕ) → length (counts_bytes cs) ≡ 2 * ones (bits cs)
unfolding counts_bytes ones
counts_long [] = refl
counts_long (c ∷ cs) = omega (arith, length-append (count_bytes c) (counts_bytes cs), count_long c, counts_long cs, ones_bit c (bits cs))

-- a count that stands at a byte is read
if_set_back : (b : List ℕ) (at c : ℕ) → Stands b at (count_bytes c) → if_set (bit c) (number_at b at) ≡ c
if_set_back b at zero s = refl
if_set_back b at (suc c) s = number_back b at (suc c) s

-- the counts that stand at a byte are read
counts_back : (b cs : List ℕ) (at : ℕ) → Stands b at (counts_bytes cs) → counts_at b (length cs) (bits cs) at ≡ cs
unfolding counts_bytes counts_at
counts_back b [] at s = refl
counts_back b (c ∷ cs) at s =
    let low : (bit c + 2 * bits cs) % 2 ≡ bit c = omega (arith, bit_le c) in
    let high : (bit c + 2 * bits cs) / 2 ≡ bits cs = omega (arith, bit_le c) in
    let two = parts b (count_bytes c) (counts_bytes cs) at s in
    let rest = counts_back b cs (at + 2 * bit c) (moved b (counts_bytes cs) (at + length (count_bytes c)) (at + 2 * bit c) (ap (λ n. at + n) (count_long c)) two.1) in
    rw (low, high, if_set_back b at c two.0, rest)

-- none of them is 0
none_back : (b cs : List ℕ) (at : ℕ) → Stands b at (counts_bytes cs) → zero_from b (ones (bits cs)) at ≡ None
unfolding counts_bytes zero_from ones
none_back b [] at s = refl
none_back b (zero ∷ cs) at s = rw (ones_bit 0 (bits cs), zero-add) (none_back b cs at s)
none_back b (suc c ∷ cs) at s =
    let two = parts b (number_bytes (suc c)) (counts_bytes cs) at s in
    let n = number_back b at (suc c) two.0 in
    let e : ones (1 + 2 * bits cs) ≡ suc (ones (bits cs)) = ones_bit 1 (bits cs) ∙ omega arith in
    rw (e, n) (none_back b cs (at + 2) two.1)

-- a load is made of its counts
own : (x : Load) → of_counts x.counts ≡ x
own x = same (at-of_counts x.counts (long x))

-- a load that stands at a byte is read there
pub record LoadBack (b : List ℕ) (at : ℕ) (x : Load) : Type 0 where
  pub value : load_at b at ≡ x
  pub size : load_size b at ≡ length (load_bytes x)
  pub none : load_zero b at ≡ None

-- the load, its size, and that no count of it is 0
pub load_back : (b : List ℕ) (at : ℕ) (x : Load) → Stands b at (load_bytes x) → LoadBack b at x
unfolding load_at
load_back b at x s =
    let counts : counts_at b 8 (get_or b at 0) (at + 1) ≡ x.counts = rw (s.0, ← long x) (counts_back b x.counts (at + 1) s.1) in
    record {
      value = ap of_counts counts ∙ own x;
      size = rw s.0 (omega (arith, counts_long x.counts));
      none = rw s.0 (none_back b x.counts (at + 1) s.1);
    }

-- where no 0 is found, there is none here and none behind
or_none : (n at : ℕ) (rest : Option ℕ) → or_here n at rest ≡ None → (rest ≡ None) × (n ≡ 0 → ⊥)
or_none zero at rest e = let z : ◌≡◌ {A = ℕ} 0 1 = cc in absurd (omega arith)
or_none (suc n) at rest e = (e, λ z. omega arith)

-- of n counts of which none is 0, r stand in front
none_step : (b : List ℕ) (n m at r : ℕ) → n ≡ r + m → r < 2 → zero_from b n at ≡ None → (zero_from b m (at + 2 * r) ≡ None) × (r ≡ 1 → number_at b at ≡ 0 → ⊥)
unfolding zero_from
none_step b n m at zero e h z = (let e1 : n ≡ m = omega arith in let e2 : at + 2 * 0 ≡ at = omega arith in rw (e2, ← e1) z, λ one w. omega arith)
none_step b n m at (suc zero) e h z =
    let e1 : n ≡ suc m = omega arith in
    let both = or_none (number_at b at) at (zero_from b m (at + 2)) (rw e1 at z) in
    (both.0, λ one. both.1)
none_step b n m at (suc (suc r)) e h z = absurd (omega arith)

-- the counts cs stand at a byte, and p has their bits
record CountsForth (b : List ℕ) (p at : ℕ) (cs : List ℕ) : Type 0 where
  stands : Stands b at (counts_bytes cs)
  told : bits cs ≡ p
  small : (k : ℕ) → get_or cs k 0 ≤ 65535

-- one count more that is there
one_more : (b : List ℕ) (p at n : ℕ) (rest : List ℕ) → Bytes b → p % 2 ≡ 1 → number_at b at ≡ n → (n ≡ 0 → ⊥) → CountsForth b (p / 2) (at + 2) rest → CountsForth b p at (n ∷ rest)
unfolding counts_bytes
one_more b p at zero rest h e is nz t = absurd (nz refl)
one_more b p at (suc n) rest h e is nz t =
    record {
      stands = joins b (number_bytes (suc n)) (counts_bytes rest) at (subst (λ m. Stands b at (number_bytes m)) is (number_forth b at h)) t.stands;
      told = omega (arith, t.told);
      small = small;
    }
  where
    small : (k : ℕ) → get_or (suc n ∷ rest) k 0 ≤ 65535
    small zero = omega (arith, number_below b at h)
    small (suc k) = t.small k

-- one count more, there or not
more : (b : List ℕ) (p at r : ℕ) (rest : List ℕ) → Bytes b → p % 2 ≡ r → (r ≡ 1 → number_at b at ≡ 0 → ⊥) → CountsForth b (p / 2) (at + 2 * r) rest → CountsForth b p at (if_set r (number_at b at) ∷ rest)
unfolding counts_bytes
more b p at zero rest h e nz t =
    record {
      stands = moved b (counts_bytes rest) (at + 2 * 0) at (omega arith) t.stands;
      told = omega (arith, t.told);
      small = small;
    }
  where
    small : (k : ℕ) → get_or (0 ∷ rest) k 0 ≤ 65535
    small zero = omega arith
    small (suc k) = t.small k
more b p at (suc zero) rest h e nz t = one_more b p at (number_at b at) rest h e refl (nz refl) t
more b p at (suc (suc r)) rest h e nz t = absurd (omega arith)

-- what is read as k counts of which none is 0 stands there
counts_forth : (b : List ℕ) (k p at : ℕ) → Bytes b → p < 2 ^ k → zero_from b (ones p) at ≡ None → CountsForth b p at (counts_at b k p at)
unfolding counts_at counts_bytes
counts_forth b zero p at h below none = record { stands = tt; told = omega (arith, pow-zero 2); small = λ k. omega arith }
counts_forth b (suc k) p at h below none =
    let n = none_step b (ones p) (ones (p / 2)) at (p % 2) (ones_step p) (omega arith) none in
    more b p at (p % 2) _ h refl n.1 (counts_forth b k (p / 2) (at + 2 * (p % 2)) h (omega (arith, pow-suc 2 k)) n.0)

-- what is read as a load stands there
pub record LoadForth (b : List ℕ) (at : ℕ) (x : Load) : Type 0 where
  pub stands : Stands b at (load_bytes x)
  pub size : length (load_bytes x) ≡ load_size b at
  pub fit : fits x ≡ true

-- with counts that fit
pub load_forth : (b : List ℕ) (at : ℕ) → Bytes b → load_zero b at ≡ None → LoadForth b at (load_at b at)
unfolding load_at counts_at
load_forth b at h none =
    let t = counts_forth b 8 (get_or b at 0) (at + 1) h (h at) none in
    record {
      stands = (sym t.told, t.stands);
      size = omega (arith, counts_long (load_at b at).counts, ap ones t.told);
      fit = (fits_eight (load_at b at)).1 (λ k _. t.small k);
    }
