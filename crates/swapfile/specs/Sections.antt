-- A section of a file: records of one kind, one behind the other. The kind tells how many bytes the record takes that begins at a byte.
use Rattle.std.specs.Prelude.{ℕ, zero, suc, ◌+◌, cond, List, [], ◌∷◌, map, length, Some, None, Ok, Err, Option, Result, ◌==◌, nat_le}
use Rattle.loads.specs.Answers.{◌>>=◌, check}
use Rattle.swapfile.specs.declared.fault.FileFault.{FileFault}
use Rattle.swapfile.specs.declared.fault.FileFault.TheVariants.{Record, ZeroCount}

-- the bytes of the file up to the section's end, the byte at which the section begins, and how many records it has
pub record Section : Type 0 where
  pub bytes : List ℕ
  pub start : ℕ
  pub count : ℕ

module _ (size : List ℕ → ℕ → ℕ) where
  -- what is said of the record that begins at a byte, if the bytes hold all of it
  abbrev pub held : {X : Type 0} → List ℕ → ℕ → Option X → Option X
  held b at x = cond (nat_le (at + size b at) (length b)) x None

  -- where n records begin, one behind the other; the row ends before a record that the bytes do not hold
  unfoldable pub places_from : List ℕ → ℕ → ℕ → List ℕ
  places_from b zero at = []
  places_from b (suc n) at = cond (nat_le (at + size b at) (length b)) (at ∷ places_from b n (at + size b at)) []

  -- where a section's records begin
  abbrev pub places : Section → List ℕ
  places s = places_from s.bytes s.count s.start

  -- n records fill the bytes to their end, or else the first byte of a record that passes it, or of what is left over
  unfoldable pub filled_from : List ℕ → ℕ → ℕ → Result (Unit {0}) FileFault
  filled_from b zero at = check (at == length b) (Record at)
  filled_from b (suc n) at = check (nat_le (at + size b at) (length b)) (Record at) >>= λ _. filled_from b n (at + size b at)

  -- a section's records fill it
  abbrev pub filled : Section → Result (Unit {0}) FileFault
  filled s = filled_from s.bytes s.count s.start

  -- what the records of a section say
  abbrev pub values : {X : Type 0} → (List ℕ → ℕ → X) → Section → List X
  values value s = map (value s.bytes) (places s)

-- refused where a count that is 0 was found
abbrev pub none_zero : Option ℕ → Result (Unit {0}) FileFault
none_zero None = Ok tt
none_zero (Some at) = Err (ZeroCount at)

-- in no record is there a present count that is 0; each record tells its first
unfoldable pub zero_free_in : (ℕ → Option ℕ) → List ℕ → Result (Unit {0}) FileFault
zero_free_in zeros [] = Ok tt
zero_free_in zeros (at ∷ ats) = none_zero (zeros at) >>= λ _. zero_free_in zeros ats

-- no present count of a section is 0
abbrev pub zero_free : (List ℕ → ℕ → ℕ) → (List ℕ → ℕ → Option ℕ) → Section → Result (Unit {0}) FileFault
zero_free size zeros s = zero_free_in (zeros s.bytes) (places size s)
