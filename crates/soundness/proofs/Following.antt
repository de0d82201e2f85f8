-- To follow a chain of line numbers, as a relation: what replay does, chains joined and turned round, more lines, and what the book joins.
use Rattle.std.proofs.Common.{◌≡◌, ℕ, zero, suc, ◌+◌, true, List, [], ◌∷◌, ◌++◌, length, ℤ, pos, negsuc, neg_ℤ, Some, None, Ok, Option, sym, refl, ap, ◌∙◌, subst, subst₂}
use Rattle.std.specs.List.{AllByRecursion as All}
use Rattle.loads.specs.declared.Load.{Load}
use Rattle.loads.specs.Tests.{contains, fits}
use Rattle.loads.specs.Exchange.{swapped, exchanged}
use Rattle.loads.proofs.Deciding.{contains_decides}
use Rattle.loads.proofs.Exchanging.{exchanged_made}
use Rattle.worksheet.specs.declared.equation.Equation.{Equation}
use Rattle.worksheet.specs.declared.fault.SwapFault.TheVariants.{NoLine}
use Rattle.worksheet.specs.Claims.{turned, nth, turned_about, named}
use Rattle.worksheet.specs.Replay.{as_swap_fault, at_step, replay}
use Rattle.tables.specs.Trails.{undo}
use Rattle.rewriting.specs.Swaps.{Applies, none, Joined}
use Rattle.rewriting.proofs.Moves.{then, context, applies_back, joined-plus, joined_back}
use Rattle.soundness.specs.Sheets.{FollowsFrom}
use Rattle.soundness.proofs.Answering.{none_not_some, some_same, ok_same, went, goes, checked, unmarked, marks, had, has}

-- by the lines ls the chain leads from the first load to the second, and the code can hold each load that it comes to
pub data Follows (ls : List Equation) : List ℤ → Load → Load → Type 0 where
  stay : {a : Load} → Follows ls [] a a
  pass : {z : ℤ} {zs : List ℤ} {e : Equation} {a m b : Load} → named ls z ≡ Some e → Applies e a m → fits m ≡ true → Follows ls zs m b → Follows ls (z ∷ zs) a b

-- an exchange that is made
record Made (x out into y : Load) : Type 0 where
  held : contains x out ≡ true
  small : fits (swapped x out into) ≡ true
  is : y ≡ swapped x out into

made : (x out into y : Load) → exchanged x out into ≡ Ok y → Made x out into y
unfolding exchanged
made x out into y e =
    let f = went _ _ _ e in
    let g = went _ _ _ f.then in
    record { held = checked _ _ _ f.first; small = checked _ _ _ g.first; is = sym (ok_same g.then) }

-- a chain that replays is followed
pub follows : (ls : List Equation) (n : ℕ) (zs : List ℤ) (a b : Load) → replay ls n zs a ≡ Ok b → Follows ls zs a b
follows ls n [] a b e = subst (Follows ls [] a) (ok_same e) stay
follows ls n (z ∷ zs) a b e =
    let p = went _ _ _ e in
    let q = went _ _ _ (unmarked _ _ _ p.first) in
    let l = q.got in
    let m = made a l.left l.right p.got (unmarked _ _ _ q.then) in
    pass (had _ _ l q.first) (record { fits = (contains_decides a l.left).0 m.held; gives = m.is }) (rw m.is m.small) (follows ls (n + 1) zs p.got b p.then)

-- and one that is followed replays
pub replays : {ls : List Equation} {zs : List ℤ} {a b : Load} (n : ℕ) → Follows ls zs a b → replay ls n zs a ≡ Ok b
replays n stay = refl
replays {ls} n (pass {z} {zs} {e} {a} {m} {b} d t f h) =
    let made : exchanged a e.left e.right ≡ Ok m = exchanged_made a e.left e.right ((contains_decides a e.left).1 t.fits) (rw t.gives at f) ∙ ap Ok (sym t.gives) in
    goes _ (marks (at_step n) (goes _ (has NoLine d) (marks as_swap_fault made))) (replays (n + 1) h)

-- one chain after another
pub followed_by : {ls : List Equation} {zs ys : List ℤ} {a m b : Load} → Follows ls zs a m → Follows ls ys m b → Follows ls (zs ++ ys) a b
followed_by stay g = g
followed_by (pass e t f h) g = pass e t f (followed_by h g)

-- a number the other way
pub named_back : (ls : List Equation) (z : ℤ) (e : Equation) → named ls z ≡ Some e → named ls (neg_ℤ z) ≡ Some (turned e)
named_back ls (pos zero) e d = absurd (none_not_some d)
named_back ls (pos (suc k)) e d = ap turned_about d
named_back ls (negsuc k) e d = go (nth ls k) d
  where
    go : (o : Option Equation) → turned_about o ≡ Some e → o ≡ Some (turned e)
    go None d = absurd (none_not_some d)
    go (Some q) d = ap turned_about d

-- a chain the other way
pub follows_back : {ls : List Equation} {zs : List ℤ} {a b : Load} → fits a ≡ true → Follows ls zs a b → Follows ls (undo zs) b a
follows_back f stay = stay
follows_back {ls} f (pass {z = z} {e = e} d t g h) = followed_by (follows_back g h) (pass (named_back ls z e d) (applies_back t) f stay)

-- the end of a chain fits
pub end_fits : {ls : List Equation} {zs : List ℤ} {a b : Load} → fits a ≡ true → Follows ls zs a b → fits b ≡ true
end_fits f stay = f
end_fits f (pass d t g h) = end_fits g h

-- what stands in a row stands in a longer one
pub nth_more : {X : Type 0} (xs ys : List X) (k : ℕ) (x : X) → nth xs k ≡ Some x → nth (xs ++ ys) k ≡ Some x
nth_more [] ys k x e = absurd (none_not_some e)
nth_more (y ∷ xs) ys zero x e = e
nth_more (y ∷ xs) ys (suc k) x e = nth_more xs ys k x e

-- a line that was named stays named where lines are added
pub named_more : (ls more : List Equation) (z : ℤ) (e : Equation) → named ls z ≡ Some e → named (ls ++ more) z ≡ Some e
named_more ls more (pos zero) e d = absurd (none_not_some d)
named_more ls more (pos (suc k)) e d = nth_more ls more k e d
named_more ls more (negsuc k) e d = go (nth ls k) refl d
  where
    go : (o : Option Equation) → nth ls k ≡ o → turned_about o ≡ Some e → turned_about (nth (ls ++ more) k) ≡ Some e
    go None d e = absurd (none_not_some e)
    go (Some q) d e = rw (nth_more ls more k q d) e

-- the last of a row
pub nth_last : {X : Type 0} (xs : List X) (x : X) → nth (xs ++ (x ∷ [])) (length xs) ≡ Some x
nth_last [] x = refl
nth_last (y ∷ xs) x = nth_last xs x

-- what holds of every line holds of a named one
pub nth_all : {X : Type 0} (P : X → Type 0) (xs : List X) (k : ℕ) (x : X) → All P xs → nth xs k ≡ Some x → P x
nth_all P [] k x h e = absurd (none_not_some e)
nth_all P (y ∷ xs) zero x h e = rw (some_same e) at h.0
nth_all P (y ∷ xs) (suc k) x h e = nth_all P xs k x h.1 e

pub named_all : (P : Equation → Type 0) → ((e : Equation) → P e → P (turned e)) → (ls : List Equation) (z : ℤ) (e : Equation) → All P ls → named ls z ≡ Some e → P e
named_all P turn ls (pos zero) e h d = absurd (none_not_some d)
named_all P turn ls (pos (suc k)) e h d = nth_all P ls k e h d
named_all P turn ls (negsuc k) e h d = go (nth ls k) refl d
  where
    go : (o : Option Equation) → nth ls k ≡ o → turned_about o ≡ Some e → P e
    go None d f = absurd (none_not_some f)
    go (Some q) d f = rw (some_same f) at (turn q (nth_all P ls k q h d))

-- what follows from the book applies within a family
applies-joined : {book : List Equation} {e : Equation} {a b : Load} → FollowsFrom book e → Applies e a b → Joined book a b
applies-joined {book} j t = let u = context t in subst₂ (Joined book) (sym u.before) (sym u.after) (joined-plus u.rest j)

-- a chain by lines that follow from the book stays within a family
pub follows-joined : {book ls : List Equation} {zs : List ℤ} {a b : Load} → All (FollowsFrom book) ls → Follows ls zs a b → Joined book a b
follows-joined h stay = none
follows-joined {book} {ls} h (pass {z = z} {e = e} d t f g) =
    then (applies-joined (named_all (FollowsFrom book) (λ e j. joined_back j) ls z e h d) t) (follows-joined h g)
