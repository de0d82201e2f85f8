-- A load in a file: its presence byte, then the counts of the articles that are present.
use Rattle.std.specs.Prelude.{ℕ, zero, suc, ◌+◌, ◌*◌, ◌/◌, ◌%◌, List, [], ◌∷◌, ◌++◌, Some, None, Option, count_ones, slice_index}
use Rattle.loads.specs.declared.Load.{Load}
use Rattle.loads.specs.Loads.{of_counts}
use Rattle.loads.specs.Presence.{presence}
use Rattle.swapfile.specs.Bytes.{number_at, number_bytes}

-- the bytes of a count: none where the article is absent
abbrev pub count_bytes : ℕ → List ℕ
count_bytes zero = []
count_bytes (suc c) = number_bytes (suc c)

-- the bytes of a row of counts
unfoldable pub counts_bytes : List ℕ → List ℕ
counts_bytes [] = []
counts_bytes (c ∷ cs) = count_bytes c ++ counts_bytes cs

-- the bytes of a load
abbrev pub load_bytes : Load → List ℕ
load_bytes x = presence x ∷ counts_bytes x.counts

-- how many bytes the load takes that begins at a byte: a bit that is set stands for two more
abbrev pub load_size : List ℕ → ℕ → ℕ
load_size b at = 1 + 2 * count_ones (slice_index b at)

-- n where the bit is set, else 0
abbrev pub if_set : ℕ → ℕ → ℕ
if_set zero n = 0
if_set (suc r) n = n

-- k counts: the bits of p tell, the lowest first, which of them stand at a byte and behind it
unfoldable pub counts_at : List ℕ → ℕ → ℕ → ℕ → List ℕ
counts_at b zero p at = []
counts_at b (suc k) p at = if_set (p % 2) (number_at b at) ∷ counts_at b k (p / 2) (at + 2 * (p % 2))

-- the load that begins at a byte
unfoldable pub load_at : List ℕ → ℕ → Load
load_at b at = of_counts (counts_at b 8 (slice_index b at) (at + 1))

-- a byte, where the count there is 0; else what the counts behind it tell
abbrev pub or_here : ℕ → ℕ → Option ℕ → Option ℕ
or_here zero at rest = Some at
or_here (suc c) at rest = rest

-- the byte of the first that is 0 of n counts
unfoldable pub zero_from : List ℕ → ℕ → ℕ → Option ℕ
zero_from b zero at = None
zero_from b (suc n) at = or_here (number_at b at) at (zero_from b n (at + 2))

-- the byte of the first present count that is 0, of the load that begins at a byte
abbrev pub load_zero : List ℕ → ℕ → Option ℕ
load_zero b at = zero_from b (count_ones (slice_index b at)) (at + 1)
