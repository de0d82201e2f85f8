-- Loads of any size by their counts: the sum, the difference and the common part of two.
use Rattle.std.specs.Prelude.{ℕ, ◌+◌, ◌-◌, min, List, map, slice_index, refl}
use Rattle.std.specs.List.{range_with_len}
use Rattle.loads.specs.Bits.{bits}
use Rattle.loads.specs.declared.Load.{Load}

-- how many pieces of the article at place k, counted from 0; none past the eighth
abbrev pub at : Load → ℕ → ℕ
at x k = slice_index x.counts k

-- the load that has f k pieces of the article at place k
abbrev pub load_of : (ℕ → ℕ) → Load
load_of f = record { counts = map f (range_with_len 0 8); presence = bits (map f (range_with_len 0 8)); eight = tt; present = refl }

-- the load with these counts, of which the first eight are read
abbrev pub of_counts : List ℕ → Load
of_counts cs = load_of (λ k. slice_index cs k)

-- the load without a piece
abbrev pub empty : Load
empty = load_of (λ _. 0)

abbrev pub plus : Load → Load → Load
plus x y = load_of (λ k. at x k + at y k)

abbrev pub minus : Load → Load → Load
minus x y = load_of (λ k. at x k - at y k)

-- the smaller count of each article
abbrev pub shared : Load → Load → Load
shared x y = load_of (λ k. min (at x k) (at y k))
