-- What is written for a content reads back as that content.
use Rattle.std.proofs.Common.{◌≡◌, ℕ, ◌-◌, ◌≤◌, true, eqb, leb, List, length, take, Ok, sym, refl, ap, ◌∙◌, arith}
use Rattle.std.proofs.lemmas.Bool.{eq-eqb, le-leb, and_from}
use Rattle.loads.specs.Answers.{◌>>=◌}
use Rattle.swapfile.specs.Bytes.{number_at}
use Rattle.swapfile.specs.Content.{Content, Within}
use Rattle.swapfile.specs.Encoding.{rules_offset, lines_offset, chain_offset, encode}
use Rattle.swapfile.specs.Layout.{Layout, layout}
use Rattle.swapfile.specs.WellFormed.{counts_kept, in_turn, offsets_rise, records_fill, zeros_absent, well_formed}
use Rattle.swapfile.specs.Decoding.{content, decode}
use Rattle.swapfile.specs.Theorems.{ReadsBack}
use Rattle.swapfile.proofs.SectionTrip.{SectionBack, part_back}
use Rattle.swapfile.proofs.RecordTrips.{equation_trip, rule_trip, line_trip, chain_number_trip}
use Rattle.swapfile.proofs.Laying.{Laid, laid_out}
use Rattle.swapfile.proofs.Limits.{limits_of}

-- what is written is well formed and says what was written
module _ (m : Content) (w : Within m) (b : List ℕ) (a : Laid b m) where
  -- the layout by the content
  planned : Layout
  planned = record {
    equations = record { bytes = take (rules_offset m) b; start = 16; count = length m.equations };
    rules = record { bytes = take (lines_offset m) b; start = rules_offset m; count = length m.rules };
    lines = record { bytes = take (chain_offset m) b; start = lines_offset m; count = length m.lines };
    chain = record { bytes = take (length b) b; start = chain_offset m; count = length m.chain };
  }

  -- the header lays it out so
  as_planned : layout b ≡ planned
  unfolding planned
  as_planned =
      let n = a.counted in
      let o = a.laid in
      λ i. record {
        equations = record { bytes = take (o.1.0 i) b; start = o.0 i; count = n.0 i };
        rules = record { bytes = take (o.1.1.0 i) b; start = o.1.0 i; count = n.1.0 i };
        lines = record { bytes = take (o.1.1.1.0 i) b; start = o.1.1.0 i; count = n.1.1.0 i };
        chain = record { bytes = take (length b) b; start = o.1.1.1.0 i; count = n.1.1.1.0 i };
      }

  -- each section is read back
  equations_back : SectionBack equation_trip (take (rules_offset m) b) 16 m.equations
  equations_back = part_back equation_trip b 16 (rules_offset m) m.equations w.equations a.equations refl (omega (arith, a.long))

  rules_back : SectionBack rule_trip (take (lines_offset m) b) (rules_offset m) m.rules
  rules_back = part_back rule_trip b (rules_offset m) (lines_offset m) m.rules w.rules a.rules refl (omega (arith, a.long))

  lines_back : SectionBack line_trip (take (chain_offset m) b) (lines_offset m) m.lines
  lines_back = part_back line_trip b (lines_offset m) (chain_offset m) m.lines w.lines a.lines refl (omega (arith, a.long))

  chain_back : SectionBack chain_number_trip (take (length b) b) (chain_offset m) m.chain
  chain_back = part_back chain_number_trip b (chain_offset m) (length b) m.chain w.chain a.chain (sym a.long) (omega arith)

  -- the four conditions hold
  kept : counts_kept b ≡ Ok tt
  kept =
      let l = limits_of m w.limits in
      let n = a.counted in
      let p : leb 16 (length b) ≡ true = le-leb _ _ (omega (arith, a.long)) in
      let q : leb (number_at b 0) 32 ≡ true = le-leb _ _ (omega arith) in
      let r : leb (number_at b 2) 128 ≡ true = le-leb _ _ (omega arith) in
      let s : leb (number_at b 4) 512 ≡ true = le-leb _ _ (omega arith) in
      let t : leb (number_at b 6) 4096 ≡ true = le-leb _ _ (omega arith) in
      rw (p, q, r, s, t)

  -- an offset between the one before it and the end of the file
  in_place : (at : ℕ) → number_at b (at - 2) ≤ number_at b at → number_at b at ≤ length b → in_turn b at ≡ true
  in_place at low high = and_from _ _ (le-leb _ _ low) (le-leb _ _ high)

  rise : offsets_rise b ≡ Ok tt
  rise =
      let o = a.laid in
      let p : eqb (number_at b 8) 16 ≡ true = eq-eqb _ _ o.0 in
      let q : in_turn b 10 ≡ true = in_place 10 (omega arith) (omega (arith, a.long)) in
      let r : in_turn b 12 ≡ true = in_place 12 (omega arith) (omega (arith, a.long)) in
      let s : in_turn b 14 ≡ true = in_place 14 (omega arith) (omega (arith, a.long)) in
      rw (p, q, r, s)

  fill : records_fill (layout b) ≡ Ok tt
  unfolding planned
  fill = ap records_fill as_planned ∙ rw (equations_back.filled, rules_back.filled, lines_back.filled) chain_back.filled

  zero_free : zeros_absent (layout b) ≡ Ok tt
  unfolding planned
  zero_free = ap zeros_absent as_planned ∙ rw (equations_back.zero_free, rules_back.zero_free) lines_back.zero_free

  -- and the sections say the content
  says : content (layout b) ≡ m
  unfolding planned
  says = ap content as_planned ∙ (λ i. record { equations = equations_back.are i; rules = rules_back.are i; lines = lines_back.are i; chain = chain_back.are i })

  -- so it is decoded
  decoded : decode b ≡ Ok m
  unfolding well_formed
  decoded = λ i. (kept i >>= λ _. rise i >>= λ _. fill i >>= λ _. zero_free i) >>= λ _. Ok (says i)

-- decoding undoes encoding
pub reads_back : ReadsBack
reads_back m w = decoded m w (encode m) (laid_out m)
