-- What stands at a place of a row, and the line that a chain number names.
use Rattle.std.proofs.Common.{◌≡◌, ℕ, zero, suc, ◌-◌, ◌<◌, ◌≤◌, List, [], ◌∷◌, ◌++◌, map, length, get_or, Some, None, refl, ap, ◌∙◌, arith}
use Rattle.worksheet.specs.Claims.{nth}

-- past the end there is nothing
pub nth-none : {X : Type 0} (xs : List X) (n : ℕ) → length xs ≤ n → nth xs n ≡ None
nth-none [] n h = refl
nth-none (x ∷ xs) zero h = absurd (omega arith)
nth-none (x ∷ xs) (suc n) h = nth-none xs n (omega arith)

-- in the first part of a row
pub nth_left : {X : Type 0} (xs ys : List X) (n : ℕ) (d : X) → n < length xs → nth (xs ++ ys) n ≡ Some (get_or xs n d)
nth_left [] ys n d h = absurd (omega arith)
nth_left (x ∷ xs) ys zero d h = refl
nth_left (x ∷ xs) ys (suc n) d h = nth_left xs ys n d (omega arith)

-- in its second part
pub nth_right : {X : Type 0} (xs ys : List X) (n : ℕ) → length xs ≤ n → nth (xs ++ ys) n ≡ nth ys (n - length xs)
nth_right [] ys n h = ap (nth ys) (omega arith)
nth_right (x ∷ xs) ys zero h = absurd (omega arith)
nth_right (x ∷ xs) ys (suc n) h = nth_right xs ys n (omega arith) ∙ ap (nth ys) (omega arith)

pub nth-map : {X Y : Type 0} (f : X → Y) (xs : List X) (n : ℕ) (d : X) → n < length xs → nth (map f xs) n ≡ Some (f (get_or xs n d))
nth-map f [] n d h = absurd (omega arith)
nth-map f (x ∷ xs) zero d h = refl
nth-map f (x ∷ xs) (suc n) d h = nth-map f xs n d (omega arith)
