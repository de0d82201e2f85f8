-- The relations of the orders. Those that read all eight counts are shut: a proof that computes one names it on an `unfolding` line.
use Rattle.std.specs.Prelude.{ℕ, zero, suc, ◌*◌, Bool, true, false, cond, List, [], ◌∷◌, ◌==◌, nat_lt, slice_index, slice_index_or}
use Rattle.std.specs.Bool.{beq}
use Rattle.std.specs.List.{range_with_len}
use Rattle.loads.specs.declared.Load.{Load}
use Rattle.loads.specs.Loads.{at, load_of}
use Rattle.loads.specs.Tests.{alike}
use Rattle.loads.specs.Totals.{sum_below, pieces}
use Rattle.orders.specs.Laws.{Relation}

-- the larger number is above; level numbers go to the relation below
abbrev pub levelled : (Load → ℕ) → Relation → Relation
levelled f below x y = cond (f x == f y) (below x y) (nat_lt (f y) (f x))

-- at the first of these places at which the counts differ, the larger count is above
abbrev pub first_larger : List ℕ → Relation
first_larger [] x y = false
first_larger (p ∷ ps) x y = levelled (λ z. at z p) (first_larger ps) x y

-- what was above is below
abbrev pub turned : Relation → Relation
turned above x y = above y x

-- the places below n, the last first
abbrev pub down : ℕ → List ℕ
down zero = []
down (suc n) = n ∷ down n

-- listed: at the first article that differs, the larger count is above
unfoldable pub listed : Relation
listed = first_larger (range_with_len 0 8)

-- bulk: the larger total is above; with level totals, at the last article that differs, the smaller count is above
unfoldable pub bulk : Relation
bulk = levelled pieces (turned (first_larger (down 8)))

-- the sum of weight × count
unfoldable pub weighed : List ℕ → Load → ℕ
weighed ws x = sum_below 8 (λ k. slice_index ws k * at x k)

-- weights: the larger sum of weight × count is above; level sums go to the relation below
abbrev pub weighted : List ℕ → Relation → Relation
weighted ws below = levelled (weighed ws) below

-- the load with the counts at places whose mark is not `side` set to 0
unfoldable pub part : List Bool → Bool → Load → Load
part ms side x = load_of (λ k. cond (beq (slice_index_or ms k false) side) (at x k) 0)

-- split: the first relation compares the marked parts; if these are the same, the second compares the unmarked parts
abbrev pub split : List Bool → Relation → Relation → Relation
split ms first second x y =
    cond (alike (part ms true x) (part ms true y)) (second (part ms false x) (part ms false y)) (first (part ms true x) (part ms true y))
