-- The worksheet: every line replays, citing only earlier ones, and so follows from the book.
use Rattle.std.proofs.Common.{◌≡◌, suc, ◌+◌, true, List, [], ◌∷◌, ◌++◌, map, length, pos, Some, sym, refl, ap, ◌∙◌, subst, inl, inr, append_assoc, append-nil, arith, length-append}
use lib.ListN.{length-map}
use Rattle.std.specs.List.{AllByRecursion as All}
use Rattle.std.proofs.ByRecursion.{All-push}
use Rattle.std.proofs.lemmas.List.{map_push}
use Rattle.loads.specs.Tests.{fits}
use Rattle.loads.proofs.Algebra.{same, counts}
use Rattle.worksheet.specs.declared.equation.Equation.{Equation}
use Rattle.worksheet.specs.declared.rule.Rule.{Rule}
use Rattle.worksheet.specs.Claims.{named}
use Rattle.worksheet.specs.Derivations.{Derivation}
use Rattle.rewriting.specs.Swaps.{equation_of, In, Applies, none, link}
use Rattle.soundness.specs.Sheets.{Small, lines, LinesReplay, FollowsFrom, Claimed}
use Rattle.soundness.proofs.Following.{Follows, follows, replays, end_fits, follows-joined, named_more, nth_last}

-- one more line
pub replays_push : (known : List Equation) (ds : List Derivation) (d : Derivation) → LinesReplay known ds
    → Follows (lines known ds) d.chain d.claim.left d.claim.right → fits d.claim.left ≡ true → LinesReplay known (ds ++ (d ∷ []))
replays_push known [] d h f g = (replays 1 (rw (append-nil known) at f), g, tt)
replays_push known (m ∷ ds) d h f g = (h.0, h.1, replays_push (known ++ (m.claim ∷ [])) ds d h.2 (rw (append_assoc known (m.claim ∷ []) (map (λ (x : Derivation). x.claim) ds)) f) g)

-- what the earlier lines hand on to the next holds of all
pub handed_on : (P : Equation → Type 0) → ((known : List Equation) (d : Derivation) → All P known → fits d.claim.left ≡ true → Follows known d.chain d.claim.left d.claim.right → P d.claim)
    → (known : List Equation) (ds : List Derivation) → All P known → LinesReplay known ds → All P (lines known ds)
handed_on P on known [] h r = rw (append-nil known) h
handed_on P on known (d ∷ ds) h r =
    rw (append_assoc known (d.claim ∷ []) (map (λ (x : Derivation). x.claim) ds)) at
    (handed_on P on (known ++ (d.claim ∷ [])) ds (All-push P known d.claim h (on known d h r.1 (follows known 1 d.chain d.claim.left d.claim.right r.0))) r.2)

-- every line's loads fit
pub lines_fit : (book : List Equation) (added : List Derivation) → All Small book → LinesReplay book added → All Small (lines book added)
lines_fit = handed_on Small (λ known d h f g. (f, end_fits f g))

-- an equation applies to its own side
pub whole_applies : (e : Equation) → Applies e e.left e.right
whole_applies e = record { fits = λ k. omega arith; gives = same (λ k. omega counts) }

book-joined : (book es : List Equation) → ((e : Equation) → In e es → In e book) → All (FollowsFrom book) es
book-joined book [] h = tt
book-joined book (e ∷ es) h = (link (record { equation = e; held = h e (inl refl); applies = inl (whole_applies e) }) none, book-joined book es (λ d m. h d (inr m)))

-- every line follows from the book, by induction over the lines before it
pub lines-follow : (book : List Equation) (added : List Derivation) → LinesReplay book added → All (FollowsFrom book) (lines book added)
lines-follow book added r = handed_on (FollowsFrom book) (λ known d h f g. follows-joined h g) book added (book-joined book book (λ e m. m)) r

-- the lines with one more
pub lines_more : (book : List Equation) (added : List Derivation) (d : Derivation) → lines book added ++ (d.claim ∷ []) ≡ lines book (added ++ (d ∷ []))
lines_more book added d = append_assoc book (map (λ (x : Derivation). x.claim) added) (d.claim ∷ []) ∙ ap (λ z. book ++ z) (sym (map_push (λ (x : Derivation). x.claim) added d))

-- the claim of the last line, by its number
pub last_claims : (book : List Equation) (added : List Derivation) (d : Derivation) → named (lines book (added ++ (d ∷ []))) (pos (length book + length added + 1)) ≡ Some d.claim
last_claims book added d =
    let n : length book + length added + 1 ≡ suc (length (lines book added)) = omega (arith, length-append book (map (λ (x : Derivation). x.claim) added), length-map added (λ (x : Derivation). x.claim)) in
    rw (n, ← (lines_more book added d)) (nth_last (lines book added) d.claim)

-- a rule stays what its line claims where lines are added
pub claimed_more : (book : List Equation) (added : List Derivation) (d : Derivation) (r : Rule) → Claimed (lines book added) r → Claimed (lines book (added ++ (d ∷ []))) r
claimed_more book added d r c = subst (λ ls. Claimed ls r) (lines_more book added d) (named_more (lines book added) (d.claim ∷ []) (pos r.line) (equation_of r) c)
