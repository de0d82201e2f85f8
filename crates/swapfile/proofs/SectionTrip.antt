-- Where a kind of record is read back as written, so is a section of such records.
use Rattle.std.proofs.Common.{◌≡◌, ℕ, zero, suc, ◌+◌, ◌≤◌, Bool, true, false, leb, List, [], ◌∷◌, map, length, take, Some, None, Ok, Err, Option, Result, refl, ap, ◌∙◌, arith, length-append}
use Rattle.std.specs.List.{flat_map, AllByRecursion as All}
use Rattle.std.proofs.lemmas.Bool.{eqb-true, eq-eqb, le-leb}
use Rattle.loads.specs.Answers.{◌>>=◌, check}
use Rattle.swapfile.specs.Bytes.{Bytes}
use Rattle.swapfile.specs.Sections.{places_from, filled_from, none_zero, zero_free_in}
use Rattle.std.proofs.lemmas.List.{length-take-le}
use Rattle.swapfile.proofs.Standing.{Stands, moved, parts, joins, up_to, from_up_to, bytes_up_to}

-- an answer that comes after another
pub after : {X Y E : Type 0} (r : Result X E) (f : X → Result Y E) (y : Y) → (r >>= f) ≡ Ok y → (x : X) × (r ≡ Ok x) × (f x ≡ Ok y)
after (Ok x) f y e = (x, refl, e)
after (Err d) f y e = let z : ◌≡◌ {A = ℕ} 0 1 = cc in absurd (omega arith)

-- a test that was passed
pub passed : {E : Type 0} (t : Bool) (e : E) (u : Unit {0}) → check t e ≡ Ok u → t ≡ true
passed true e u p = refl
passed false e u p = let z : ◌≡◌ {A = ℕ} 0 1 = cc in absurd (omega arith)

-- a record without a count that is 0
no_zero : (o : Option ℕ) (u : Unit {0}) → none_zero o ≡ Ok u → o ≡ None
no_zero None u p = refl
no_zero (Some at) u p = let z : ◌≡◌ {A = ℕ} 0 1 = cc in absurd (omega arith)

module _ {X : Type 0} (size : List ℕ → ℕ → ℕ) (zeros : List ℕ → ℕ → Option ℕ) (value : List ℕ → ℕ → X) (write : X → List ℕ) (Fit : X → Type 0) where
  -- a record of x that stands at a byte is read back
  pub record Back (b : List ℕ) (at : ℕ) (x : X) : Type 0 where
    pub is : value b at ≡ x
    pub long : size b at ≡ length (write x)
    pub none : zeros b at ≡ None

  -- what is read as x at a byte stands there
  pub record Forth (b : List ℕ) (at : ℕ) (x : X) : Type 0 where
    pub stands : Stands b at (write x)
    pub long : length (write x) ≡ size b at
    pub fit : Fit x

  -- both ways, for every value and every byte
  pub record Trip : Type 0 where
    pub back : (b : List ℕ) (at : ℕ) (x : X) → Fit x → Stands b at (write x) → Back b at x
    pub forth : (b : List ℕ) (at : ℕ) → Bytes b → zeros b at ≡ None → Forth b at (value b at)

module _ {X : Type 0} {size : List ℕ → ℕ → ℕ} {zeros : List ℕ → ℕ → Option ℕ} {value : List ℕ → ℕ → X} {write : X → List ℕ} {Fit : X → Type 0} (trip : Trip size zeros value write Fit) where
  -- a section of the records xs is read back
  pub record SectionBack (b : List ℕ) (at : ℕ) (xs : List X) : Type 0 where
    pub are : map (value b) (places_from size b (length xs) at) ≡ xs
    pub filled : filled_from size b (length xs) at ≡ Ok tt
    pub zero_free : zero_free_in (zeros b) (places_from size b (length xs) at) ≡ Ok tt

  -- what is read as the n records xs, from one byte to another, stands there
  pub record SectionForth (b : List ℕ) (n at end : ℕ) (xs : List X) : Type 0 where
    pub stands : Stands b at (flat_map write xs)
    pub ends : at + length (flat_map write xs) ≡ end
    pub many : length xs ≡ n
    pub fit : All Fit xs

  pub section_back : (b : List ℕ) (at : ℕ) (xs : List X) → All Fit xs → Stands b at (flat_map write xs) → at + length (flat_map write xs) ≡ length b → SectionBack b at xs
  unfolding places_from filled_from zero_free_in
  section_back b at [] f s e = record { are = refl; filled = rw (eq-eqb at (length b) (omega arith)) refl; zero_free = refl }
  section_back b at (x ∷ xs) f s e =
      let two = parts b (write x) (flat_map write xs) at s in
      let one = trip.back b at x f.0 two.0 in
      let all = length-append (write x) (flat_map write xs) in
      let rest = section_back b (at + length (write x)) xs f.1 two.1 (omega arith) in
      let room : leb (at + length (write x)) (length b) ≡ true = le-leb _ _ (omega arith) in
      record {
        are = rw (one.long, room, one.is, rest.are);
        filled = rw (one.long, room) rest.filled;
        zero_free = rw (one.long, room, one.none) rest.zero_free;
      }

  pub section_forth : (b : List ℕ) (n at : ℕ) → Bytes b → filled_from size b n at ≡ Ok tt → zero_free_in (zeros b) (places_from size b n at) ≡ Ok tt → SectionForth b n at (length b) (map (value b) (places_from size b n at))
  unfolding places_from filled_from zero_free_in
  section_forth b zero at h m z = record { stands = tt; ends = omega (arith, eqb-true at (length b) (passed _ _ tt m)); many = refl; fit = tt }
  section_forth b (suc n) at h m z =
      let one-fits = after _ _ tt m in
      let room : leb (at + size b at) (length b) ≡ true = passed _ _ _ one-fits.1 in
      let counted = after _ _ tt (rw room at z) in
      let one = trip.forth b at h (no_zero _ _ counted.1) in
      let rest = section_forth b n (at + size b at) h one-fits.2 counted.2 in
      let xs = map (value b) (places_from size b n (at + size b at)) in
      let all = length-append (write (value b at)) (flat_map write xs) in
      rw room (record {
        stands = joins b (write (value b at)) (flat_map write xs) at one.stands (moved b (flat_map write xs) (at + size b at) (at + length (write (value b at))) (omega (arith, one.long)) rest.stands);
        ends = omega (arith, one.long, rest.ends);
        many = ap suc rest.many;
        fit = (one.fit, rest.fit);
      })

-- a section of a file, which ends at a byte of it
module _ {X : Type 0} {size : List ℕ → ℕ → ℕ} {zeros : List ℕ → ℕ → Option ℕ} {value : List ℕ → ℕ → X} {write : X → List ℕ} {Fit : X → Type 0} (trip : Trip size zeros value write Fit) where
  -- what stands there is read back
  pub part_back : (b : List ℕ) (at end : ℕ) (xs : List X) → All Fit xs → Stands b at (flat_map write xs) → at + length (flat_map write xs) ≡ end → end ≤ length b → SectionBack trip (take end b) at xs
  part_back b at end xs f s e h = section_back trip (take end b) at xs f (up_to b (flat_map write xs) at end (omega arith) s) (omega (arith, length-take-le end b h))

  -- what is read there stands there
  pub part_forth : (b : List ℕ) (n at end : ℕ) → Bytes b → end ≤ length b → filled_from size (take end b) n at ≡ Ok tt → zero_free_in (zeros (take end b)) (places_from size (take end b) n at) ≡ Ok tt → SectionForth trip b n at end (map (value (take end b)) (places_from size (take end b) n at))
  part_forth b n at end h l fills counts =
      let s = section_forth trip (take end b) n at (bytes_up_to b end h) fills counts in
      let e = length-take-le end b l in
      record { stands = from_up_to b _ at end (omega (arith, s.ends)) s.stands; ends = s.ends ∙ e; many = s.many; fit = s.fit }
