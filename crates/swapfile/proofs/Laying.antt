-- The bytes of a file, part by part.
use Rattle.std.proofs.Common.{◌≡◌, ℕ, ◌+◌, List, [], ◌∷◌, ◌++◌, length, sym, ◌∙◌, subst, arith, length-append}
use Rattle.std.specs.List.{flat_map}
use Rattle.swapfile.specs.Bytes.{Bytes, number_at, number_bytes}
use Rattle.swapfile.specs.Content.{Content}
use Rattle.swapfile.specs.Encoding.{equations_bytes, rules_bytes, lines_bytes, chain_bytes, rules_offset, lines_offset, chain_offset, counts, offsets, encode}
use Rattle.swapfile.proofs.Standing.{Stands, parts, joins, itself, whole, number_back, number_forth}

-- numbers that are read one behind the other
abbrev pub Row : List ℕ → ℕ → List ℕ → Type 0
Row b at [] = Unit {0}
Row b at (n ∷ ns) = (number_at b at ≡ n) × Row b (at + 2) ns

-- what stands there as bytes is read
row_back : (b : List ℕ) (at : ℕ) (ns : List ℕ) → Stands b at (flat_map number_bytes ns) → Row b at ns
row_back b at [] s = tt
row_back b at (n ∷ ns) s = let two = parts b (number_bytes n) (flat_map number_bytes ns) at s in (number_back b at n two.0, row_back b (at + 2) ns two.1)

-- and what is read stands there
row_forth : (b : List ℕ) (at : ℕ) (ns : List ℕ) → Bytes b → Row b at ns → Stands b at (flat_map number_bytes ns)
row_forth b at [] h r = tt
row_forth b at (n ∷ ns) h r = joins b (number_bytes n) (flat_map number_bytes ns) at (subst (λ k. Stands b at (number_bytes k)) r.0 (number_forth b at h)) (row_forth b (at + 2) ns h r.1)

-- a file's bytes, part by part
pub record Laid (b : List ℕ) (m : Content) : Type 0 where
  pub counted : Row b 0 (counts m)
  pub laid : Row b 8 (offsets m)
  pub equations : Stands b 16 (equations_bytes m)
  pub rules : Stands b (rules_offset m) (rules_bytes m)
  pub lines : Stands b (lines_offset m) (lines_bytes m)
  pub chain : Stands b (chain_offset m) (chain_bytes m)
  pub long : length b ≡ chain_offset m + length (chain_bytes m)

module _ (m : Content) where
  -- the bytes behind the header
  tail : List ℕ
  tail = equations_bytes m ++ (rules_bytes m ++ (lines_bytes m ++ chain_bytes m))

  -- how long a file is
  pub encode_long : length (encode m) ≡ chain_offset m + length (chain_bytes m)
  unfolding encode
  encode_long =
      omega (
        arith,
        length-append (equations_bytes m) (rules_bytes m ++ (lines_bytes m ++ chain_bytes m)),
        length-append (rules_bytes m) (lines_bytes m ++ chain_bytes m),
        length-append (lines_bytes m) (chain_bytes m),
      )

  -- the bytes that are written, taken apart
  pub laid_out : Laid (encode m) m
  unfolding encode tail
  laid_out =
      let b = encode m in
      let top = parts b (flat_map number_bytes (counts m)) (flat_map number_bytes (offsets m) ++ tail) 0 (itself b) in
      let next = parts b (flat_map number_bytes (offsets m)) tail 8 top.1 in
      let e = parts b (equations_bytes m) (rules_bytes m ++ (lines_bytes m ++ chain_bytes m)) 16 next.1 in
      let r = parts b (rules_bytes m) (lines_bytes m ++ chain_bytes m) (rules_offset m) e.1 in
      let l = parts b (lines_bytes m) (chain_bytes m) (lines_offset m) r.1 in
      record {
        counted = row_back b 0 (counts m) top.0;
        laid = row_back b 8 (offsets m) next.0;
        equations = e.0;
        rules = r.0;
        lines = l.0;
        chain = l.1;
        long = encode_long;
      }

  -- bytes that can be taken apart so are those that are written
  pub put_together : (b : List ℕ) → Bytes b → Laid b m → encode m ≡ b
  unfolding encode tail
  put_together b h a =
      let l = joins b (lines_bytes m) (chain_bytes m) (lines_offset m) a.lines a.chain in
      let r = joins b (rules_bytes m) (lines_bytes m ++ chain_bytes m) (rules_offset m) a.rules l in
      let e = joins b (equations_bytes m) (rules_bytes m ++ (lines_bytes m ++ chain_bytes m)) 16 a.equations r in
      let next = joins b (flat_map number_bytes (offsets m)) tail 8 (row_forth b 8 (offsets m) h a.laid) e in
      let top = joins b (flat_map number_bytes (counts m)) (flat_map number_bytes (offsets m) ++ tail) 0 (row_forth b 0 (counts m) h a.counted) next in
      sym (whole b (encode m) top (a.long ∙ sym encode_long))
