-- What is left of a row, and a buffer that is filled with it.
use Rattle.std.proofs.Common.{◌≡◌, ℕ, zero, suc, ◌+◌, ◌-◌, ◌<◌, ◌≤◌, List, [], ◌++◌, length, get_or, take, drop, sym, refl, ap, ◌∙◌, append_assoc, append-nil, arith, length-append, length-take, take-append-drop}
use Rattle.swapfile.specs.Bytes.{number_bytes}
use Rattle.std.specs.List.{flat_map}
use Rattle.std.proofs.lemmas.List.{drop_more, drop_all, drop-drop, take_all}
use Rattle.std.proofs.lemmas.Slice.{take-put_mid, drop-put_mid}
use borrow.Rule.Slice.PartMut.{put_mid}
use Rattle.swapfile.specs.StoredLoads.{count_bytes, counts_bytes}

-- a buffer that was out, and whose first bytes are xs now
pub record Filled (out now : List ℕ) (at : ℕ) (xs : List ℕ) : Type 0 where
  pub front : take at now ≡ xs
  pub long : length xs ≡ at
  pub behind : drop at now ≡ drop at out

-- where a part more is written behind them
pub filled_more : (out now new part xs : List ℕ) (at next : ℕ) → Filled out now at xs → next ≡ at + length part → new ≡ part → Filled out (put_mid at (next - at) now new) next (xs ++ part)
filled_more out now new part xs at next f goes is =
    let within : at ≤ length now = omega (arith, length-take at now, ap length f.front, f.long) in
    let many : length new ≡ next - at = omega (arith, ap length is) in
    let k : next ≡ at + (next - at) = omega arith in
    record {
      front = take-put_mid at (next - at) now new next (omega (arith, ap length is)) within ∙ (λ i. f.front i ++ is i);
      long = omega (arith, length-append xs part, f.long);
      behind = drop-put_mid at (next - at) now new next (omega arith) within many ∙ ap (λ n. drop n now) k ∙ sym (drop-drop (next - at) at now) ∙ ap (drop (next - at)) f.behind ∙ drop-drop (next - at) at out ∙ ap (λ n. drop n out) (sym k);
    }

-- the whole of it
pub filled_end : (out now : List ℕ) (at : ℕ) (xs : List ℕ) → Filled out now at xs → now ≡ xs ++ drop at out
filled_end out now at xs f = sym (take-append-drop at now) ∙ (λ i. f.front i ++ f.behind i)

-- the first bytes of a buffer and what is left to be written are all; a part more of that is written behind them
pub written_more : (at k next : ℕ) (out new part rest rest' all : List ℕ) → next ≡ at + length part → at ≤ length out → new ≡ part → rest ≡ part ++ rest' → take at out ++ rest ≡ all → take next (put_mid at k out new) ++ rest' ≡ all
written_more at k next out new part rest rest' all goes within is more so =
    ap (λ xs. take next (put_mid at k out xs) ++ rest') is
    ∙ ap (λ xs. xs ++ rest') (take-put_mid at k out part next goes within)
    ∙ append_assoc (take at out) part rest'
    ∙ ap (λ xs. take at out ++ xs) (sym more)
    ∙ so

-- in the end the buffer is all
pub written_end : (at : ℕ) (out rest all : List ℕ) → length out ≤ at → rest ≡ [] → take at out ++ rest ≡ all → out ≡ all
written_end at out rest all h none so = sym (take_all at out h) ∙ sym (append-nil (take at out)) ∙ ap (λ xs. take at out ++ xs) (sym none) ∙ so

-- the records that are left, by the first of them
pub row-rest : {W : Type 0} (bytes : W → List ℕ) (row : List W) (i : ℕ) (x : W) → i < length row → x ≡ get_or row i x → flat_map bytes (drop i row) ≡ bytes x ++ flat_map bytes (drop (i + 1) row)
row-rest bytes row i x within is = ap (flat_map bytes) (drop_more row i x within) ∙ ap (λ y. bytes y ++ flat_map bytes (drop (i + 1) row)) (sym is)

-- the counts that are left, where the first of them is there or not
module _ (cs : List ℕ) (i c : ℕ) (within : i < length cs) (is : c ≡ get_or cs i 0) where
  counts-rest : counts_bytes (drop i cs) ≡ count_bytes c ++ counts_bytes (drop (i + 1) cs)
  unfolding counts_bytes
  counts-rest = ap counts_bytes (drop_more cs i 0 within) ∙ ap (λ n. count_bytes n ++ counts_bytes (drop (i + 1) cs)) (sym is)

  pub counts-some : 0 < c → counts_bytes (drop i cs) ≡ number_bytes c ++ counts_bytes (drop (i + 1) cs)
  counts-some h = counts-rest ∙ ap (λ xs. xs ++ counts_bytes (drop (i + 1) cs)) (there c h)
    where
      there : (n : ℕ) → 0 < n → count_bytes n ≡ number_bytes n
      there zero h = absurd (omega arith)
      there (suc n) h = refl

  pub counts-zero : c ≡ 0 → counts_bytes (drop i cs) ≡ counts_bytes (drop (i + 1) cs)
  counts-zero z = counts-rest ∙ ap (λ n. count_bytes n ++ counts_bytes (drop (i + 1) cs)) z

-- none is left
pub counts-none : (cs : List ℕ) (i : ℕ) → length cs ≤ i → counts_bytes (drop i cs) ≡ []
unfolding counts_bytes
counts-none cs i h = ap counts_bytes (drop_all i cs h)
