-- Rows of one and two places, a row written in three parts, and a row that a trail fills.
use Rattle.std.proofs.Common.{◌≡◌, ℕ, ◌+◌, ◌-◌, ◌≤◌, List, [], ◌∷◌, ◌++◌, length, take, drop, set, ℤ, pos, neg_ℤ, sym, refl, ap, ◌∙◌, ap₂, arith, length-append, length-drop, length-take}
use borrow.Rule.Slice.PartMut.{put_mid, post_of}
use lib.ListN.{length-map}
use Rattle.std.proofs.lemmas.List.{append-nil, append_assoc, take_at, drop_all}
use Rattle.std.proofs.lemmas.Slice.{take-put_mid}
use Rattle.loads.specs.declared.Load.{Load}
use Rattle.worksheet.specs.declared.rule.Rule.{Rule}
use Rattle.tables.specs.Trails.{forward, undo, trail, over_front, over_back}

module _ {X : Type 0} where
  -- the one place is written
  pub one_place : (row : List X) (z w : X) → length row ≡ 1 → z ≡ w → set row 0 z ≡ w ∷ []
  one_place [] z w h e = absurd (omega arith)
  one_place (x ∷ []) z w h e = ap (λ y. y ∷ []) e
  one_place (x ∷ y ∷ row) z w h e = absurd (omega arith)

  -- both places are written
  pub two-places : (row : List X) (z w z' w' : X) → length row ≡ 2 → z ≡ w → z' ≡ w' → set (set row 0 z) 1 z' ≡ w ∷ w' ∷ []
  two-places [] z w z' w' h e f = absurd (omega arith)
  two-places (x ∷ []) z w z' w' h e f = absurd (omega arith)
  two-places (x ∷ y ∷ []) z w z' w' h e f = ap₂ (λ u v. u ∷ v ∷ []) e f
  two-places (x ∷ y ∷ v ∷ row) z w z' w' h e f = absurd (omega arith)

  -- a row whose first s places are written with xs, and the next n with ys
  abbrev pub two-written : List X → List X → List X → ℕ → ℕ → List X
  two-written row xs ys s n = put_mid s (s + n - s) (xs ++ post_of 0 (s - 0) row) ys

  module _ (row xs ys zs : List X) (s n : ℕ) (front : length xs ≡ s) (middle : length ys ≡ n) where
    abbrev first : List X
    first = xs ++ post_of 0 (s - 0) row

    length-first : length first ≡ s + (length row - s)
    length-first = omega (arith, length-append xs (post_of 0 (s - 0) row), length-drop (s - 0) row)

    -- it stays as long
    pub length_two : s + n ≤ length row → length (two-written row xs ys s n) ≡ length row
    length_two h =
        omega (arith, length-first, length-append (take s first) (ys ++ post_of s (s + n - s) first), length-append ys (post_of s (s + n - s) first), length-take s first, length-drop (s + n - s) (drop s first), length-drop s first)

    -- and the rest with zs
    pub three-written : put_mid (s + n) (length (two-written row xs ys s n) - (s + n)) (two-written row xs ys s n) zs ≡ xs ++ (ys ++ zs)
    three-written =
        ap₂ (λ x y. x ++ (zs ++ y)) (take-put_mid s (s + n - s) first ys (s + n) (omega arith) (omega (arith, length-first)) ∙ ap (λ x. x ++ ys) (take_at xs (post_of 0 (s - 0) row) s front))
        (drop_all (length (two-written row xs ys s n) - (s + n)) (drop (s + n) (two-written row xs ys s n)) (omega (arith, length-drop (s + n) (two-written row xs ys s n))))
        ∙ ap (λ x. xs ++ ys ++ x) (append-nil zs)
        ∙ append_assoc xs ys zs

pub length-forward : (ns : List ℕ) → length (forward ns) ≡ length ns
length-forward ns = length-map ns pos

pub length-undo : (zs : List ℤ) → length (undo zs) ≡ length zs
length-undo [] = refl
length-undo (z ∷ zs) = let ih = length-undo zs in omega (arith, length-append (undo zs) (neg_ℤ z ∷ []))

-- a trail that fills the row
module _ (t : List Rule) (n : ℕ) (a : Load) (row : List ℤ) (fits : length row ≡ n) (full : length (trail t n a) ≡ n) where
  pub follow_fills : over_front (forward (trail t (length row) a)) row ≡ forward (trail t n a)
  follow_fills =
      rw fits (ap (λ x. forward (trail t n a) ++ x) (drop_all (length (forward (trail t n a))) row (omega (arith, length-forward (trail t n a)))) ∙ append-nil (forward (trail t n a)))

  pub undo_fills : over_back (undo (forward (trail t (length row) a))) row ≡ undo (forward (trail t n a))
  undo_fills = ap (λ k. over_back (undo (forward (trail t k a))) row) fits ∙ ap (λ k. take k row ++ undo (forward (trail t n a))) none
    where
      none : length row - length (undo (forward (trail t n a))) ≡ 0
      none = omega (arith, length-undo (forward (trail t n a)), length-forward (trail t n a))

-- the chain of a fork, as its three parts are written
module _ (t : List Rule) (row xs ys zs joint : List ℤ) (s n m : ℕ) (a b : Load) (long : length row ≡ s + (length joint + m)) (span : n ≡ length joint)
    (walked : length (trail t s a) ≡ s) (went : length (trail t m b) ≡ m) where
  -- the parts that the first and the last are written into
  abbrev front : List ℤ
  front = take (s - 0) row

  abbrev back : List ℤ
  back = take (length (two-written row xs ys s n) - (s + n)) (drop (s + n) (two-written row xs ys s n))

  pub chain-written : xs ≡ over_back (undo (forward (trail t (length front) a))) front → ys ≡ joint → zs ≡ over_front (forward (trail t (length back) b)) back
      → put_mid (s + n) (length (two-written row xs ys s n) - (s + n)) (two-written row xs ys s n) zs ≡ undo (forward (trail t s a)) ++ (joint ++ forward (trail t m b))
  chain-written undone crossed followed =
      let first : xs ≡ undo (forward (trail t s a)) = undone ∙ undo_fills t s a front (omega (arith, length-take (s - 0) row)) walked in
      let long-first : length xs ≡ s = ap length first ∙ length-undo (forward (trail t s a)) ∙ length-forward (trail t s a) ∙ walked in
      let long-middle : length ys ≡ n = ap length crossed ∙ sym span in
      let kept : length (two-written row xs ys s n) ≡ length row = length_two row xs ys zs s n long-first long-middle (omega arith) in
      let last : zs ≡ forward (trail t m b) =
      followed
      ∙ follow_fills t m b back (omega (arith, length-take (length (two-written row xs ys s n) - (s + n)) (drop (s + n) (two-written row xs ys s n)), length-drop (s + n) (two-written row xs ys s n))) went in
      three-written row xs ys zs s n long-first long-middle ∙ ap₂ (λ x y. x ++ (y ++ zs)) first crossed ∙ ap (λ z. undo (forward (trail t s a)) ++ (joint ++ z)) last
