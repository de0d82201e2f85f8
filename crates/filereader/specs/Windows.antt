-- Going through a section record by record.
use Rattle.std.specs.Prelude.{ℕ, ◌+◌, ◌-◌, List, ◌++◌, Some, None, Ok, Err, Option, Result, nat_le}
use Rattle.std.specs.Option.{option_map}
use Rattle.loads.specs.Answers.{check}
use Rattle.worksheet.specs.Claims.{nth}
use Rattle.swapfile.specs.declared.items.Found.{Found}
use Rattle.swapfile.specs.Sections.{Section, places}
use Rattle.records.specs.Records.{found}
use Rattle.filereader.specs.declared.window.NoRoom.{NoRoom}

module _ (size : List ℕ → ℕ → ℕ) where
  -- the first record of a section, if it has one
  abbrev pub first_found : {I : Type 0} → (List ℕ → ℕ → I) → Section → Option (Found I)
  first_found item s = option_map (found size item s.bytes) (nth (places size s) 0)

  -- the section behind the record that begins at a place
  abbrev pub behind : Section → Option ℕ → Section
  behind s None = s
  behind s (Some at) = record { bytes = s.bytes; start = at + size s.bytes at; count = s.count - 1 }

  -- the section without its first record, if it has one
  abbrev pub rest : Section → Section
  rest s = behind s (nth (places size s) 0)

-- a row of n with room for at most `most` takes k more, or is refused
abbrev pub room : (n k most : ℕ) → Result (Unit {0}) NoRoom
room n k most = check (nat_le (n + k) most) (record {})

-- what a row holds when that was answered: ys behind xs, or xs as before
abbrev pub extended : {X : Type 0} → Result (Unit {0}) NoRoom → List X → List X → List X
extended (Ok u) xs ys = xs ++ ys
extended (Err e) xs ys = xs
