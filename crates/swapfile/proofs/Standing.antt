-- A row of bytes that stands at a place of a file.
use Rattle.std.proofs.Common.{◌≡◌, ℕ, zero, suc, ◌+◌, ◌<◌, ◌≤◌, List, [], ◌∷◌, ◌++◌, length, get_or, take, sym, refl, ◌∙◌, subst, inl, inr, add-zero, zero-add, arith}
use Rattle.std.proofs.lemmas.List.{ext_get_or, get_or-take, get_or_past, length-take}
use Rattle.std.proofs.lemmas.Bool.{cases_lt}
use Rattle.swapfile.specs.Bytes.{Bytes, number_at, number_bytes}

-- the bytes xs stand from a place on
abbrev pub Stands : List ℕ → ℕ → List ℕ → Type 0
Stands b at [] = Unit {0}
Stands b at (x ∷ xs) = (get_or b at 0 ≡ x) × Stands b (at + 1) xs

-- the place may be told in another way
pub moved : (b xs : List ℕ) (i j : ℕ) → i ≡ j → Stands b i xs → Stands b j xs
moved b xs i j e s = subst (λ k. Stands b k xs) e s

-- two rows that stand one behind the other, taken apart
pub parts : (b xs ys : List ℕ) (at : ℕ) → Stands b at (xs ++ ys) → Stands b at xs × Stands b (at + length xs) ys
parts b [] ys at s = (tt, moved b ys at (at + 0) (omega arith) s)
parts b (x ∷ xs) ys at s =
    let r = parts b xs ys (at + 1) s.1 in
    ((s.0, r.0), moved b ys (at + 1 + length xs) (at + suc (length xs)) (omega arith) r.1)

-- and put together
pub joins : (b xs ys : List ℕ) (at : ℕ) → Stands b at xs → Stands b (at + length xs) ys → Stands b at (xs ++ ys)
joins b [] ys at s t = moved b ys (at + 0) at (omega arith) t
joins b (x ∷ xs) ys at s t = (s.0, joins b xs ys (at + 1) s.1 (moved b ys (at + suc (length xs)) (at + 1 + length xs) (omega arith) t))

-- what stands at a place is read there
read : (b xs : List ℕ) (at i : ℕ) → Stands b at xs → i < length xs → get_or b (at + i) 0 ≡ get_or xs i 0
read b [] at i s h = absurd (omega arith)
read b (x ∷ xs) at zero s h = rw add-zero s.0
read b (x ∷ xs) at (suc i) s h = let e : at + suc i ≡ at + 1 + i = omega arith in rw e (read b xs (at + 1) i s.1 (omega arith))

-- a row that is read byte by byte in another one stands there
pub stands_like : (b c xs : List ℕ) (at : ℕ) → ((i : ℕ) → at ≤ i → i < at + length xs → get_or b i 0 ≡ get_or c i 0) → Stands b at xs → Stands c at xs
stands_like b c [] at f s = tt
stands_like b c (x ∷ xs) at f s = (sym (f at (omega arith) (omega arith)) ∙ s.0, stands_like b c xs (at + 1) (λ i l h. f i (omega arith) (omega arith)) s.1)

-- what stands before a byte of the file stands in the file up to that byte, and the other way round
pub up_to : (b xs : List ℕ) (at end : ℕ) → at + length xs ≤ end → Stands b at xs → Stands (take end b) at xs
up_to b xs at end h = stands_like b (take end b) xs at (λ i _ l. sym (get_or-take end b i 0 (omega arith)))

pub from_up_to : (b xs : List ℕ) (at end : ℕ) → at + length xs ≤ end → Stands (take end b) at xs → Stands b at xs
from_up_to b xs at end h = stands_like (take end b) b xs at (λ i _ l. get_or-take end b i 0 (omega arith))

-- a part of a row of bytes is one
pub bytes_up_to : (b : List ℕ) (end : ℕ) → Bytes b → Bytes (take end b)
bytes_up_to b end h i = elim (cases_lt i end) [
  | inl l ↦ omega (arith, get_or-take end b i 0 l, h i)
  | inr l ↦ omega (arith, get_or_past (take end b) i 0 (omega (arith, length-take end b)))
]

-- a file stands at its own start
pub itself : (b : List ℕ) → Stands b 0 b
itself b = from b b 0 (λ i. rw zero-add refl)
  where
    from : (b xs : List ℕ) (at : ℕ) → ((i : ℕ) → get_or b (at + i) 0 ≡ get_or xs i 0) → Stands b at xs
    from b [] at f = tt
    from b (x ∷ xs) at f = (rw add-zero at (f 0), from b xs (at + 1) (λ i. let e : at + 1 + i ≡ at + suc i = omega arith in rw e (f (suc i))))

-- a row of the file's length that stands at its start is the file
pub whole : (b xs : List ℕ) → Stands b 0 xs → length b ≡ length xs → b ≡ xs
whole b xs s e = ext_get_or 0 b xs e (λ i h. rw zero-add at (read b xs 0 i s (omega arith)))

-- two bytes and their number
pub number_back : (b : List ℕ) (at n : ℕ) → Stands b at (number_bytes n) → number_at b at ≡ n
number_back b at n s = omega arith

-- the number that is read stands there
pub number_forth : (b : List ℕ) (at : ℕ) → Bytes b → Stands b at (number_bytes (number_at b at))
number_forth b at h = let p = h at in let q = h (at + 1) in (omega arith, (omega arith, tt))

-- and has two bytes
pub number_below : (b : List ℕ) (at : ℕ) → Bytes b → number_at b at ≤ 65535
number_below b at h = let p = h at in let q = h (at + 1) in omega arith
