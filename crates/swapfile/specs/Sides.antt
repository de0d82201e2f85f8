-- Two loads in a file, one behind the other: the sides of an equation, a rule or a line.
use Rattle.std.specs.Prelude.{ℕ, ◌+◌, List, ◌++◌, Some, None, Option}
use Rattle.loads.specs.declared.Load.{Load}
use Rattle.swapfile.specs.StoredLoads.{load_bytes, load_size, load_zero}

-- the bytes of two loads
abbrev pub sides_bytes : (left right : Load) → List ℕ
sides_bytes l r = load_bytes l ++ load_bytes r

-- where the right load begins
abbrev pub right_at : List ℕ → ℕ → ℕ
right_at b at = at + load_size b at

-- how many bytes two loads take
abbrev pub sides_size : List ℕ → ℕ → ℕ
sides_size b at = load_size b at + load_size b (right_at b at)

-- the first of two that is there
abbrev pub first : {X : Type 0} → Option X → Option X → Option X
first None y = y
first (Some x) y = Some x

-- the byte of their first present count that is 0
abbrev pub sides_zero : List ℕ → ℕ → Option ℕ
sides_zero b at = first (load_zero b at) (load_zero b (right_at b at))
