-- The rows of a file, put one behind the other, are the file.
use Rattle.std.proofs.Common.{◌≡◌, ℕ, ◌+◌, ◌-◌, ◌<◌, ◌≤◌, true, List, [], ◌∷◌, ◌++◌, length, take, drop, Ok, Err, sym, refl, ap, ◌∙◌, append_assoc, arith}
use Rattle.std.specs.List.{flat_map}
use Rattle.std.proofs.lemmas.List.{take_at}
use Rattle.std.proofs.lemmas.Bool.{le-leb, lt-leb, and_from}
use Rattle.swapfile.specs.Bytes.{number_bytes}
use Rattle.swapfile.specs.Content.{Content, few, Within}
use Rattle.swapfile.specs.Decoding.{decode}
use Rattle.swapfile.specs.Encoding.{equations_bytes, rules_bytes, lines_bytes, chain_bytes, rules_offset, lines_offset, chain_offset, counts, offsets, encode}
use Rattle.swapfile.specs.Equations.{equation_bytes}
use Rattle.swapfile.specs.Rules.{rule_bytes}
use Rattle.swapfile.specs.Lines.{line_bytes}
use Rattle.swapfile.specs.ChainNumbers.{chain_number_bytes}
use Rattle.swapfile.proofs.Narrow.{joined_short, equation_short, rule_short, line_short}
use Rattle.swapfile.proofs.ReadsBack.{reads_back}
use Rattle.filewriter.specs.declared.fault.WriteFault.TheVariants.{ShortBuffer}
use Rattle.filewriter.specs.Writing.{written}
use borrow.Rule.Slice.PartMut.{put_mid}
use Rattle.filewriter.proofs.Puts.{Filled, filled_more, filled_end}

-- six rows, one behind the other
regroup : (a b c d e f : List ℕ) → ((((a ++ b) ++ c) ++ d) ++ e) ++ f ≡ a ++ (b ++ (c ++ (d ++ (e ++ f))))
regroup a b c d e f = simp append_assoc

module _ (m : Content) where
  -- a file within the limits is short
  pub file_short : length m.equations ≤ 32 → length m.rules ≤ 128 → length m.lines ≤ 512 → length m.chain ≤ 4096 → chain_offset m + length (chain_bytes m) ≤ 32336
  file_short e r l c =
      omega (
        arith,
        joined_short equation_bytes 34 equation_short m.equations,
        joined_short rule_bytes 36 rule_short m.rules,
        joined_short line_bytes 36 line_short m.lines,
        joined_short chain_number_bytes 2 (λ z. omega arith) m.chain,
      )

  -- the limits, taken together
  pub few_from : length m.equations ≤ 32 → length m.rules ≤ 128 → length m.lines ≤ 512 → length m.chain ≤ 4096 → few m ≡ true
  few_from e r l c = and_from _ _ (and_from _ _ (and_from _ _ (le-leb _ _ e) (le-leb _ _ r)) (le-leb _ _ l)) (le-leb _ _ c)

  -- a buffer that is too short
  pub too_short : few m ≡ true → (long : ℕ) → long < length (encode m) → Err ShortBuffer ≡ written m long
  too_short f long h = rw (f, lt-leb _ _ h) refl

  -- a buffer with room
  pub has_room : few m ≡ true → (long n : ℕ) → length (encode m) ≤ long → n ≡ length (encode m) → Ok n ≡ written m long
  has_room f long n h e = rw (f, le-leb _ _ h) (ap Ok e)

  -- what was written reads as the content
  pub reads_as : (out out' : List ℕ) (n : ℕ) → n ≡ length (encode m) → out' ≡ encode m ++ drop n out → Within m → decode (take n out') ≡ Ok m
  reads_as out out' n e p w = ap (λ b. decode (take n b)) p ∙ ap decode (take_at (encode m) (drop n out) n (sym e)) ∙ reads_back m w

  -- the rows of the file, each behind the one before it
  pub whole_file : (r l c n : ℕ) (out e₁ e₂ e₃ e₄ e₅ e₆ : List ℕ) → r ≡ rules_offset m → l ≡ lines_offset m → c ≡ chain_offset m → n ≡ c + length (chain_bytes m) →
      e₁ ≡ flat_map number_bytes (counts m) → e₂ ≡ flat_map number_bytes (16 ∷ r ∷ l ∷ c ∷ []) → e₃ ≡ equations_bytes m → e₄ ≡ rules_bytes m → e₅ ≡ lines_bytes m → e₆ ≡ chain_bytes m →
      put_mid c (n - c) (put_mid l (c - l) (put_mid r (l - r) (put_mid 16 (r - 16) (put_mid 8 8 (put_mid 0 8 out e₁) e₂) e₃) e₄) e₅) e₆ ≡ encode m ++ drop n out
  unfolding encode
  whole_file r l c n out e₁ e₂ e₃ e₄ e₅ e₆ r-is l-is c-is n-is p₁ p₂ p₃ p₄ p₅ p₆ =
      let places : e₂ ≡ flat_map number_bytes (offsets m) = p₂ ∙ (λ i. flat_map number_bytes (16 ∷ r-is i ∷ l-is i ∷ c-is i ∷ [])) in
      let none : Filled out out 0 [] = record { front = refl; long = refl; behind = refl } in
      let f₁ = filled_more out out e₁ (flat_map number_bytes (counts m)) [] 0 8 none refl p₁ in
      let f₂ = filled_more out _ e₂ (flat_map number_bytes (offsets m)) _ 8 16 f₁ refl places in
      let f₃ = filled_more out _ e₃ (equations_bytes m) _ 16 r f₂ r-is p₃ in
      let f₄ = filled_more out _ e₄ (rules_bytes m) _ r l f₃ (omega arith) p₄ in
      let f₅ = filled_more out _ e₅ (lines_bytes m) _ l c f₄ (omega arith) p₅ in
      let f₆ = filled_more out _ e₆ (chain_bytes m) _ c n f₅ n-is p₆ in
      filled_end out _ n _ f₆ ∙ ap (λ xs. xs ++ drop n out) (regroup (flat_map number_bytes (counts m)) (flat_map number_bytes (offsets m)) (equations_bytes m) (rules_bytes m) (lines_bytes m) (chain_bytes m))
