-- Bytes that decode are those that are written for what they say.
use Rattle.std.proofs.Common.{◌≡◌, ℕ, ◌≤◌, eqb, leb, List, [], ◌∷◌, length, take, Ok, Err, sym, refl, ap, ◌∙◌, subst, arith}
use Rattle.std.proofs.lemmas.Bool.{eqb-true, leb-true, le-leb, and_parts, and_from}
use Rattle.loads.specs.Answers.{◌>>=◌, check}
use Rattle.swapfile.specs.declared.fault.FileFault.{FileFault}
use Rattle.swapfile.specs.Bytes.{Bytes, number_at}
use Rattle.swapfile.specs.Sections.{places_from, zero_free_in}
use Rattle.swapfile.specs.ChainNumbers.{chain_number_size, chain_number_zero}
use Rattle.swapfile.specs.Content.{Content, Within}
use Rattle.swapfile.specs.Encoding.{equations_bytes, rules_bytes, lines_bytes, chain_bytes, rules_offset, lines_offset, chain_offset, encode}
use Rattle.swapfile.specs.Layout.{layout}
use Rattle.swapfile.specs.WellFormed.{counts_kept, in_turn, offsets_rise, records_fill, zeros_absent, well_formed}
use Rattle.swapfile.specs.Decoding.{content, decode, Counted}
use Rattle.swapfile.specs.Theorems.{NoOther}
use Rattle.swapfile.proofs.Standing.{moved}
use Rattle.swapfile.proofs.SectionTrip.{after, passed, part_forth}
use Rattle.swapfile.proofs.RecordTrips.{equation_trip, rule_trip, line_trip, chain_number_trip}
use Rattle.swapfile.proofs.Laying.{Laid, put_together}
use Rattle.swapfile.proofs.ReadsBack.{reads_back}

-- bytes that are well formed are what is written for what they say
record Formed (b : List ℕ) : Type 0 where
  counts : counts_kept b ≡ Ok tt
  rise : offsets_rise b ≡ Ok tt
  fill : records_fill (layout b) ≡ Ok tt
  zeros : zeros_absent (layout b) ≡ Ok tt

-- the conditions, one by one
formed : (b : List ℕ) → well_formed b ≡ Ok tt → Formed b
unfolding well_formed
formed b e =
    let p = after (counts_kept b) _ tt e in
    let q = after (offsets_rise b) _ tt p.2 in
    let r = after (records_fill (layout b)) _ tt q.2 in
    record { counts = p.1; rise = q.1; fill = r.1; zeros = r.2 }

-- the bounds that a well-formed header keeps
pub record Bounds (b : List ℕ) : Type 0 where
  pub long : 16 ≤ length b
  pub equations : number_at b 0 ≤ 32
  pub rules : number_at b 2 ≤ 128
  pub lines : number_at b 4 ≤ 512
  pub chain : number_at b 6 ≤ 4096
  pub start : number_at b 8 ≡ 16
  pub first : number_at b 10 ≤ length b
  pub second : number_at b 12 ≤ length b
  pub third : number_at b 14 ≤ length b

-- from its conditions
pub bounds : (b : List ℕ) → counts_kept b ≡ Ok tt → offsets_rise b ≡ Ok tt → Bounds b
bounds b c o =
    let p = after (check (leb 16 (length b)) _) _ tt c in
    let q = after (check (leb (number_at b 0) 32) _) _ tt p.2 in
    let r = after (check (leb (number_at b 2) 128) _) _ tt q.2 in
    let s = after (check (leb (number_at b 4) 512) _) _ tt r.2 in
    let t = after (check (eqb (number_at b 8) 16) _) _ tt o in
    let u = after (check (in_turn b 10) _) _ tt t.2 in
    let v = after (check (in_turn b 12) _) _ tt u.2 in
    record {
      long = leb-true _ _ (passed _ _ _ p.1);
      equations = leb-true _ _ (passed _ _ _ q.1);
      rules = leb-true _ _ (passed _ _ _ r.1);
      lines = leb-true _ _ (passed _ _ _ s.1);
      chain = leb-true _ _ (passed _ _ _ s.2);
      start = eqb-true _ _ (passed _ _ _ t.1);
      first = leb-true _ _ (and_parts _ _ (passed _ _ _ u.1)).1;
      second = leb-true _ _ (and_parts _ _ (passed _ _ _ v.1)).1;
      third = leb-true _ _ (and_parts _ _ (passed _ _ _ v.2)).1;
    }

-- chain numbers have no counts
no_counts : (b : List ℕ) (ats : List ℕ) → zero_free_in (chain_number_zero b) ats ≡ Ok tt
unfolding zero_free_in
no_counts b [] = refl
no_counts b (at ∷ ats) = no_counts b ats

-- what such bytes say is within the limits, and stands in them part by part
said : (b : List ℕ) → Bytes b → Formed b → Within (content (layout b)) × Laid b (content (layout b))
said b h f =
    let k = bounds b f.counts f.rise in
    let p = after _ _ tt f.fill in
    let q = after _ _ tt p.2 in
    let r = after _ _ tt q.2 in
    let s = after _ _ tt f.zeros in
    let t = after _ _ tt s.2 in
    let es = part_forth equation_trip b (number_at b 0) (number_at b 8) (number_at b 10) h k.first p.1 s.1 in
    let rs = part_forth rule_trip b (number_at b 2) (number_at b 10) (number_at b 12) h k.second q.1 t.1 in
    let ls = part_forth line_trip b (number_at b 4) (number_at b 12) (number_at b 14) h k.third r.1 t.2 in
    let cs = part_forth chain_number_trip b (number_at b 6) (number_at b 14) (length b) h (omega arith) r.2 (no_counts (take (length b) b) (places_from chain_number_size (take (length b) b) (number_at b 6) (number_at b 14))) in
    let m = content (layout b) in
    let o : number_at b 10 ≡ rules_offset m = omega (arith, k.start, es.ends) in
    let o' : number_at b 12 ≡ lines_offset m = omega (arith, o, rs.ends) in
    let o'' : number_at b 14 ≡ chain_offset m = omega (arith, o', ls.ends) in
    let few-equations : length m.equations ≤ 32 = omega (arith, k.equations, es.many) in
    let few-rules : length m.rules ≤ 128 = omega (arith, k.rules, rs.many) in
    let few-lines : length m.lines ≤ 512 = omega (arith, k.lines, ls.many) in
    let few-numbers : length m.chain ≤ 4096 = omega (arith, k.chain, cs.many) in (
      record {
        limits = and_from _ _ (and_from _ _ (and_from _ _ (le-leb _ _ few-equations) (le-leb _ _ few-rules)) (le-leb _ _ few-lines)) (le-leb _ _ few-numbers);
        equations = es.fit;
        rules = rs.fit;
        lines = ls.fit;
        chain = cs.fit;
      },
      record {
        counted = (sym es.many, (sym rs.many, (sym ls.many, (sym cs.many, tt))));
        laid = (k.start, (o, (o', (o'', tt))));
        equations = moved b (equations_bytes m) (number_at b 8) 16 k.start es.stands;
        rules = moved b (rules_bytes m) (number_at b 10) (rules_offset m) o rs.stands;
        lines = moved b (lines_bytes m) (number_at b 12) (lines_offset m) o' ls.stands;
        chain = moved b (chain_bytes m) (number_at b 14) (chain_offset m) o'' cs.stands;
        long = omega (arith, o'', cs.ends);
      },
    )

-- encoding undoes decoding
pub no_other : NoOther
no_other b m h e =
    let p = after (well_formed b) _ m e in
    let is : content (layout b) ≡ m = cc p.2 in
    let both = said b h (formed b p.1) in
    subst (λ x. Within x × (encode x ≡ b)) is (both.0, put_together (content (layout b)) b h both.1)

-- well-formed bytes are accepted as the file of some content
pub accepted : (b : List ℕ) → Bytes b → well_formed b ≡ Ok tt → (m : Content) × Within m × (encode m ≡ b) × (decode b ≡ Ok m)
accepted b h e =
    let d : decode b ≡ Ok (content (layout b)) = ap (λ r. r >>= λ _. Ok (content (layout b))) e in
    let both = no_other b (content (layout b)) h d in
    (content (layout b), both.0, both.1, d)

-- and their sections say as much as the header tells
pub counted : (b : List ℕ) → Bytes b → well_formed b ≡ Ok tt → Counted (layout b)
counted b h e =
    let both = said b h (formed b e) in
    let n = both.1.counted in
    record { equations = sym n.0; rules = sym n.1.0; lines = sym n.1.1.0; chain = sym n.1.1.1.0; limits = both.0.limits }

-- bytes with a fault are the file of none
pub refused : (b : List ℕ) (f : FileFault) → well_formed b ≡ Err f → (m : Content) → Within m → encode m ≡ b → ⊥
refused b f e m w is =
    let good : decode b ≡ Ok m = ap decode (sym is) ∙ reads_back m w in
    let bad : decode b ≡ Err f = ap (λ r. r >>= λ _. Ok (content (layout b))) e in
    let z : ◌≡◌ {A = ℕ} 0 1 = cc in
    omega arith
