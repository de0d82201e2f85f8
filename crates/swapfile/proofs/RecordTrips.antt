-- The four kinds of record are read back as written, and nothing else reads as them.
use Rattle.std.proofs.Common.{◌≡◌, ℕ, ◌+◌, ◌<◌, true, ◌&&◌, nat_le, List, ◌++◌, length, Some, None, Option, refl, arith, length-append, w16, of_z}
use borrow.Author.Gap.{read_sfits}
use Rattle.std.proofs.lemmas.Int.{to_z-of_z, of_z-to_z}
use Rattle.std.proofs.lemmas.Bool.{and_parts, and_from, le-leb}
use Rattle.worksheet.specs.declared.equation.Equation.{Equation}
use Rattle.swapfile.specs.Bytes.{Bytes, number_at, number_bytes}
use Rattle.swapfile.specs.StoredLoads.{load_bytes, load_at, load_zero}
use Rattle.swapfile.specs.Sides.{sides_size, right_at, first, sides_zero}
use Rattle.swapfile.specs.Equations.{equation_bytes, equation_size, equation_at, equation_fits}
use Rattle.swapfile.specs.Rules.{rule_bytes, rule_size, rule_at, rule_fits}
use Rattle.swapfile.specs.Lines.{line_bytes, line_size, line_at, line_fits}
use Rattle.swapfile.specs.ChainNumbers.{chain_number_bytes, chain_number_size, chain_number_at, chain_number_zero, ChainNumberFits}
use Rattle.swapfile.proofs.Standing.{Stands, moved, parts, joins, number_back, number_forth, number_below}
use Rattle.swapfile.proofs.LoadTrip.{load_back, load_forth}
use Rattle.swapfile.proofs.SectionTrip.{Trip}

-- where neither of two is there
pub both-none : {X : Type 0} (x y : Option X) → first x y ≡ None → (x ≡ None) × (y ≡ None)
both-none None y e = (refl, e)
both-none (Some x) y e = let z : ◌≡◌ {A = ℕ} 0 1 = cc in absurd (omega arith)

-- equations
pub equation_trip : Trip equation_size sides_zero equation_at equation_bytes (λ e. equation_fits e ≡ true)
equation_trip = record {
  back = λ b at x f s.
      let two = parts b (load_bytes x.left) (load_bytes x.right) at s in
      let l = load_back b at x.left two.0 in
      let r = load_back b (right_at b at) x.right (moved b (load_bytes x.right) (at + length (load_bytes x.left)) (right_at b at) (omega (arith, l.size)) two.1) in
      record {
        is = λ i. record { left = l.value i; right = r.value i };
        long = omega (arith, length-append (load_bytes x.left) (load_bytes x.right), l.size, r.size);
        none = rw l.none r.none;
      };
  forth = λ b at h z.
      let none = both-none (load_zero b at) (load_zero b (right_at b at)) z in
      let l = load_forth b at h none.0 in
      let r = load_forth b (right_at b at) h none.1 in
      let x = load_bytes (load_at b at) in
      let y = load_bytes (load_at b (right_at b at)) in
      record {
        stands = joins b x y at l.stands (moved b y (right_at b at) (at + length x) (omega (arith, l.size)) r.stands);
        long = omega (arith, length-append x y, l.size, r.size);
        fit = and_from _ _ l.fit r.fit;
      };
}

-- a number behind an equation that stands at a byte
behind_back : (b : List ℕ) (at : ℕ) (xs : List ℕ) (n : ℕ) → sides_size b at ≡ length xs → Stands b (at + length xs) (number_bytes n) → number_at b (at + sides_size b at) ≡ n
behind_back b at xs n e s = number_back b (at + sides_size b at) n (moved b (number_bytes n) (at + length xs) (at + sides_size b at) (omega (arith, e)) s)

-- what is read as a number behind an equation stands there
behind_forth : (b : List ℕ) (at : ℕ) (xs : List ℕ) → Bytes b → Stands b at xs → length xs ≡ sides_size b at → Stands b at (xs ++ number_bytes (number_at b (at + sides_size b at)))
behind_forth b at xs h s e =
    let n = number_bytes (number_at b (at + sides_size b at)) in
    joins b xs n at s (moved b n (at + sides_size b at) (at + length xs) (omega (arith, e)) (number_forth b (at + sides_size b at) h))

-- an equation and a number behind it
numbered_trip : Trip {X = Equation × ℕ} (λ b at. sides_size b at + 2) sides_zero (λ b at. (equation_at b at, number_at b (at + sides_size b at))) (λ p. equation_bytes p.0 ++ number_bytes p.1) (λ p. (equation_fits p.0 && nat_le p.1 65535) ≡ true)
numbered_trip = record {
  back = λ b at x f s.
      let sides = equation_bytes x.0 in
      let two = parts b sides (number_bytes x.1) at s in
      let e = equation_trip.back b at x.0 (and_parts _ _ f).0 two.0 in
      record {
        is = λ i. (e.is i, behind_back b at sides x.1 e.long two.1 i);
        long = omega (arith, length-append sides (number_bytes x.1), e.long);
        none = e.none;
      };
  forth = λ b at h z.
      let e = equation_trip.forth b at h z in
      let sides = equation_bytes (equation_at b at) in
      record {
        stands = behind_forth b at sides h e.stands e.long;
        long = omega (arith, length-append sides (number_bytes (number_at b (at + sides_size b at))), e.long);
        fit = and_from _ _ e.fit (le-leb _ _ (number_below b (at + sides_size b at) h));
      };
}

-- lines
pub line_trip : Trip line_size sides_zero line_at line_bytes (λ l. line_fits l ≡ true)
line_trip = record {
  back = λ b at x f s.
      let e = numbered_trip.back b at (x.claim, x.length) f s in
      record { is = λ i. record { claim = (e.is i).0; length = (e.is i).1 }; long = e.long; none = e.none };
  forth = λ b at h z. let e = numbered_trip.forth b at h z in record { stands = e.stands; long = e.long; fit = e.fit };
}

-- rules
pub rule_trip : Trip rule_size sides_zero rule_at rule_bytes (λ r. rule_fits r ≡ true)
rule_trip = record {
  back = λ b at x f s.
      let e = numbered_trip.back b at (record { left = x.left; right = x.right }, x.line) f s in
      record { is = λ i. record { left = (e.is i).0.left; right = (e.is i).0.right; line = (e.is i).1 }; long = e.long; none = e.none };
  forth = λ b at h z. let e = numbered_trip.forth b at h z in record { stands = e.stands; long = e.long; fit = e.fit };
}

-- chain numbers, in two's complement
pub chain_number_trip : Trip chain_number_size chain_number_zero chain_number_at chain_number_bytes ChainNumberFits
chain_number_trip = record {
  back = λ b at z f s. record { is = rw (number_back b at (of_z w16 z) s) (to_z-of_z w16 z f); long = refl; none = refl };
  forth = λ b at h n.
      let below = number_below b at h in
      let small : number_at b at < 65536 = omega arith in
      record { stands = rw (of_z-to_z w16 (number_at b at) small) (number_forth b at h); long = refl; fit = read_sfits w16 (number_at b at) };
}
