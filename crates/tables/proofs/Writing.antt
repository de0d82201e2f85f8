-- A trail written into a row, one number at a time: what is left to write gives what was asked for.
use Rattle.std.proofs.Common.{◌≡◌, ℕ, suc, ◌+◌, ◌-◌, ◌<◌, List, [], ◌∷◌, ◌++◌, length, take, drop, set, ℤ, pos, neg_ℤ, sym, ap, ◌∙◌, arith, length-take}
use Rattle.std.proofs.lemmas.List.{append-nil, append_assoc, take-append-drop, take_all, take_more_set, take-set, take-take, drop-set, drop-set-lt, drop-drop, length-append}
use Rattle.tables.specs.Trails.{forward, undo, over_front, over_back}

-- the row with the first i numbers written, and these to come
abbrev pub ahead : ℕ → List ℕ → List ℤ → List ℤ
ahead i ns row = take i row ++ over_front (forward ns) (drop i row)

-- one number more
pub ahead_more : (i n : ℕ) (ns ms : List ℕ) (row : List ℤ) (z : ℤ) → i < length row → ns ≡ n ∷ ms → z ≡ pos n → ahead i ns row ≡ ahead (i + 1) ms (set row i z)
ahead_more i n ns ms row z h e q =
    rw (e, take_more_set row i z h, append_assoc (take i row) (z ∷ []), ← q)
    (ap (λ rest. take i row ++ (z ∷ (forward ms ++ rest)))
    (drop-drop (suc (length (forward ms))) i row ∙ ap (λ k. drop k row) (omega arith) ∙ sym (drop-drop (length (forward ms)) (i + 1) row)
    ∙ ap (drop (length (forward ms))) (sym (drop-set-lt (i + 1) row i z (omega arith)))))

-- the row with the numbers from i on written, and these to come before them, the first of them last
abbrev pub behind : ℕ → List ℕ → List ℤ → List ℤ
behind i ns row = over_back (undo (forward ns)) (take i row) ++ drop i row

-- nothing is to come
pub behind-none : (i : ℕ) (ns : List ℕ) (row : List ℤ) → ns ≡ [] → behind i ns row ≡ row
behind-none i ns row e =
    rw e (ap (λ l. l ++ drop i row) (append-nil (take (length (take i row) - 0) (take i row)) ∙ take_all (length (take i row) - 0) (take i row) (omega arith))
    ∙ take-append-drop i row)

-- one number more
pub behind_more : (i n : ℕ) (ns ms : List ℕ) (row : List ℤ) (z : ℤ) → i < length row → ns ≡ n ∷ ms → z ≡ neg_ℤ (pos n) → behind (i + 1) ns row ≡ behind i ms (set row i z)
behind_more i n ns ms row z h e q =
    rw (e, ← q, take-set row i z, drop-set row i z h)
    (ap (λ l. l ++ (back ++ (z ∷ [])) ++ rest) (take-take wide (i + 1) row (omega (arith, length-take (i + 1) row, length-append back (z ∷ []))) ∙ ap (λ k. take k row) same_front ∙ sym (take-take short i row (omega (arith, length-take i row))))
    ∙ append_assoc (take short (take i row)) (back ++ (z ∷ [])) rest
    ∙ ap (λ l. take short (take i row) ++ l) (append_assoc back (z ∷ []) rest)
    ∙ sym (append_assoc (take short (take i row)) back (z ∷ rest)))
  where
    back : List ℤ
    back = undo (forward ms)

    rest : List ℤ
    rest = drop (i + 1) row

    wide : ℕ
    wide = length (take (i + 1) row) - length (back ++ (z ∷ []))

    short : ℕ
    short = length (take i row) - length back

    same_front : wide ≡ short
    same_front = omega (arith, length-take (i + 1) row, length-take i row, length-append back (z ∷ []))
