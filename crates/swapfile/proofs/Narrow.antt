-- What is written for a content within the limits is a row of bytes, and each record is short.
use Rattle.std.proofs.Common.{◌≡◌, ℕ, zero, suc, ◌*◌, ◌<◌, ◌≤◌, true, ◌&&◌, nat_le, List, [], ◌∷◌, ◌++◌, length, get_or, ℤ, pos, negsuc, inl, inr, arith, length-append, w16, of_z}
use lib.Count.{ones-le}
use Rattle.std.specs.List.{flat_map, AllByRecursion as All}
use Rattle.std.proofs.lemmas.Bool.{and_parts, leb-true, cases_lt}
use Rattle.loads.specs.declared.Load.{Load}
use Rattle.loads.specs.Loads.{at}
use Rattle.loads.specs.Presence.{presence}
use Rattle.loads.specs.Tests.{fits}
use Rattle.loads.proofs.Algebra.{long, past}
use Rattle.loads.proofs.Bits.{bit_le, bits-few, bits_more}
use Rattle.loads.proofs.Deciding.{fits_eight}
use Rattle.worksheet.specs.declared.equation.Equation.{Equation}
use Rattle.worksheet.specs.declared.line.Line.{Line}
use Rattle.worksheet.specs.declared.rule.Rule.{Rule}
use Rattle.swapfile.specs.Bytes.{Bytes, number_bytes}
use Rattle.swapfile.specs.StoredLoads.{counts_bytes, load_bytes}
use Rattle.swapfile.specs.Equations.{equation_bytes, equation_fits}
use Rattle.swapfile.specs.Rules.{rule_bytes, rule_fits}
use Rattle.swapfile.specs.Lines.{line_bytes, line_fits}
use Rattle.swapfile.specs.ChainNumbers.{chain_number_bytes, ChainNumberFits}
use Rattle.swapfile.specs.Content.{Content, Within}
use Rattle.swapfile.specs.Encoding.{equations_bytes, rules_bytes, lines_bytes, chain_bytes, chain_offset, counts, offsets, encode}
use Rattle.swapfile.specs.Theorems.{WritesBytes}
use Rattle.swapfile.proofs.LoadTrip.{counts_long}
use Rattle.swapfile.proofs.Limits.{limits_of}

-- a presence byte is a byte
presence_below : (x : Load) → presence x < 256
presence_below x = omega (arith, bits_more x.counts 0 (omega (arith, long x)), bit_le (at x 0), bits-few x.counts (long x) 1 (omega arith))

-- a load takes at most 17 bytes
pub load_short : (x : Load) → length (load_bytes x) ≤ 17
load_short x = omega (arith, counts_long x.counts, ones-le 8 (presence x) (presence_below x))

-- an equation at most 34
pub equation_short : (e : Equation) → length (equation_bytes e) ≤ 34
equation_short e = omega (arith, length-append (load_bytes e.left) (load_bytes e.right), load_short e.left, load_short e.right)

-- and with a number behind it, as a rule or a line, at most 36
numbered_short : (e : Equation) (n : ℕ) → length (equation_bytes e ++ number_bytes n) ≤ 36
numbered_short e n = omega (arith, length-append (equation_bytes e) (number_bytes n), equation_short e)

pub rule_short : (r : Rule) → length (rule_bytes r) ≤ 36
rule_short r = numbered_short (record { left = r.left; right = r.right }) r.line

pub line_short : (l : Line) → length (line_bytes l) ≤ 36
line_short l = numbered_short l.claim l.length

-- a section as many times as it has records
pub joined_short : {X : Type 0} (write : X → List ℕ) (most : ℕ) → ((x : X) → length (write x) ≤ most) → (xs : List X) → length (flat_map write xs) ≤ length xs * most
joined_short write most h [] = omega arith
joined_short write most h (x ∷ xs) = omega (arith, length-append (write x) (flat_map write xs), h x, joined_short write most h xs)

-- rows of bytes: the empty one, two together, and each thing that is written
none_narrow : Bytes []
none_narrow i = omega arith

append_narrow : (xs ys : List ℕ) → Bytes xs → Bytes ys → Bytes (xs ++ ys)
append_narrow [] ys f g i = g i
append_narrow (x ∷ xs) ys f g zero = f 0
append_narrow (x ∷ xs) ys f g (suc i) = append_narrow xs ys (λ j. f (suc j)) g i

number_narrow : (n : ℕ) → n < 65536 → Bytes (number_bytes n)
number_narrow n h zero = omega arith
number_narrow n h (suc zero) = omega arith
number_narrow n h (suc (suc i)) = omega arith

counts_narrow : (cs : List ℕ) → ((k : ℕ) → get_or cs k 0 ≤ 65535) → Bytes (counts_bytes cs)
unfolding counts_bytes
counts_narrow [] f = none_narrow
counts_narrow (zero ∷ cs) f = counts_narrow cs (λ k. f (suc k))
counts_narrow (suc c ∷ cs) f = append_narrow (number_bytes (suc c)) (counts_bytes cs) (number_narrow (suc c) (omega (arith, f 0))) (counts_narrow cs (λ k. f (suc k)))

-- a load that fits has counts up to 65,535
small : (x : Load) → fits x ≡ true → (k : ℕ) → at x k ≤ 65535
small x f k = elim (cases_lt k 8) [ inl l ↦ (fits_eight x).0 f k l | inr l ↦ omega (arith, past x k l) ]

load_narrow : (x : Load) → fits x ≡ true → Bytes (load_bytes x)
load_narrow x f zero = presence_below x
load_narrow x f (suc i) = counts_narrow x.counts (small x f) i

equation_narrow : (e : Equation) → equation_fits e ≡ true → Bytes (equation_bytes e)
equation_narrow e f = let p = and_parts _ _ f in append_narrow (load_bytes e.left) (load_bytes e.right) (load_narrow e.left p.0) (load_narrow e.right p.1)

numbered_narrow : (e : Equation) (n : ℕ) → (equation_fits e && nat_le n 65535) ≡ true → Bytes (equation_bytes e ++ number_bytes n)
numbered_narrow e n f = let p = and_parts _ _ f in append_narrow (equation_bytes e) (number_bytes n) (equation_narrow e p.0) (number_narrow n (omega (arith, leb-true _ _ p.1)))

rule_narrow : (r : Rule) → rule_fits r ≡ true → Bytes (rule_bytes r)
rule_narrow r = numbered_narrow (record { left = r.left; right = r.right }) r.line

line_narrow : (l : Line) → line_fits l ≡ true → Bytes (line_bytes l)
line_narrow l = numbered_narrow l.claim l.length

chain_number_narrow : (z : ℤ) → ChainNumberFits z → Bytes (chain_number_bytes z)
chain_number_narrow (pos n) f = number_narrow n (omega (arith, f.sfits))
chain_number_narrow (negsuc n) f = number_narrow (of_z w16 (negsuc n)) (omega arith)

joined_narrow : {X : Type 0} (write : X → List ℕ) (P : X → Type 0) → ((x : X) → P x → Bytes (write x)) → (xs : List X) → All P xs → Bytes (flat_map write xs)
joined_narrow write P h [] f = none_narrow
joined_narrow write P h (x ∷ xs) f = append_narrow (write x) (flat_map write xs) (h x f.0) (joined_narrow write P h xs f.1)

-- the header's numbers have two bytes each
header_narrow : (ns : List ℕ) → All (λ n. n < 65536) ns → Bytes (flat_map number_bytes ns)
header_narrow = joined_narrow number_bytes (λ n. n < 65536) number_narrow

-- the last offset has two bytes, and so have the others
pub offsets_small : (m : Content) → Within m → chain_offset m < 65536
offsets_small m w =
    let l = limits_of m w.limits in
    omega (arith, joined_short equation_bytes 34 equation_short m.equations, joined_short rule_bytes 36 rule_short m.rules, joined_short line_bytes 36 line_short m.lines)

-- so the whole file is
pub writes_bytes : WritesBytes
unfolding encode
writes_bytes m w =
    let l = limits_of m w.limits in
    let o = offsets_small m w in
    let es = equations_bytes m in
    let rs = rules_bytes m in
    let ls = lines_bytes m in
    let cs = chain_bytes m in
    let places = flat_map number_bytes (offsets m) in
    append_narrow (flat_map number_bytes (counts m)) (places ++ (es ++ (rs ++ (ls ++ cs)))) (header_narrow (counts m) (omega arith, (omega arith, (omega arith, (omega arith, tt)))))
    (append_narrow places (es ++ (rs ++ (ls ++ cs))) (header_narrow (offsets m) (omega arith, (omega arith, (omega arith, (omega arith, tt)))))
    (append_narrow es (rs ++ (ls ++ cs)) (joined_narrow equation_bytes _ equation_narrow m.equations w.equations)
    (append_narrow rs (ls ++ cs) (joined_narrow rule_bytes _ rule_narrow m.rules w.rules)
    (append_narrow ls cs (joined_narrow line_bytes _ line_narrow m.lines w.lines) (joined_narrow chain_number_bytes _ chain_number_narrow m.chain w.chain)))))
