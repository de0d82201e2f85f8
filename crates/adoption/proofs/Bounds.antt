-- What the numbers of a file stay within.
use Rattle.std.proofs.Common.{◌≡◌, ℕ, zero, suc, ◌<◌, ◌≤◌, true, leb, List, [], ◌∷◌, length, pos, Some, Ok, refl, arith}
use Rattle.std.specs.List.{AllByRecursion as All}
use Rattle.std.proofs.ByRecursion.{All-weaker}
use Rattle.std.proofs.lemmas.Bool.{and_parts, and_from, le-leb}
use Rattle.loads.specs.Tests.{fits}
use Rattle.orders.specs.Laws.{Relation}
use Rattle.worksheet.specs.declared.equation.Equation.{Equation}
use Rattle.worksheet.specs.declared.line.Line.{Line}
use Rattle.worksheet.specs.declared.rule.Rule.{Rule}
use Rattle.worksheet.specs.Claims.{nth, named}
use Rattle.rewriting.specs.Swaps.{equation_of}
use Rattle.tables.specs.Citing.{citable}
use Rattle.soundness.specs.Sheets.{Small, Claimed}
use Rattle.soundness.proofs.Answering.{none_not_some, went}
use Rattle.swapfile.specs.Equations.{equation_fits}
use Rattle.swapfile.specs.Lines.{line_fits}
use Rattle.swapfile.specs.Content.{Content, Within}
use Rattle.adoption.specs.Tables.{rules_claimed, rules_hold}
use Rattle.adoption.specs.Theorems.{SmallLines}
use Rattle.adoption.proofs.Tables.{claimed_so}

-- the code can hold the lines of a file within the limits
line_small : (l : Line) → line_fits l ≡ true → Small l.claim
line_small l h = and_parts (fits l.claim.left) (fits l.claim.right) (and_parts (equation_fits l.claim) (leb l.length 65535) h).0

pub within_small : (m : Content) → Within m → SmallLines m.lines
within_small m w = All-weaker (λ (l : Line). line_fits l ≡ true) (λ (l : Line). Small l.claim) line_small m.lines w.lines

-- a line that is named is there
nth_within : {X : Type 0} (xs : List X) (k : ℕ) (x : X) → nth xs k ≡ Some x → k < length xs
nth_within [] k x h = absurd (none_not_some h)
nth_within (y ∷ xs) zero x h = omega arith
nth_within (y ∷ xs) (suc k) x h = let ih = nth_within xs k x h in omega arith

named_within : (ls : List Equation) (n : ℕ) (e : Equation) → named ls (pos n) ≡ Some e → n ≤ length ls
named_within ls zero e h = omega arith
named_within ls (suc k) e h = let w = nth_within ls k e h in omega arith

claimed-citable : (ls : List Equation) → length ls ≤ 544 → (t : List Rule) → All (Claimed ls) t → citable t ≡ true
claimed-citable ls few [] h = refl
claimed-citable ls few (r ∷ t) h =
    let w = named_within ls r.line (equation_of r) h.0 in
    and_from (leb r.line 544) (citable t) (le-leb r.line 544 (omega arith)) (claimed-citable ls few t h.1)

-- a chain can cite the rules of a file whose table holds
pub rules-citable : (above : Relation) (ls : List Equation) → length ls ≤ 544 → (t : List Rule) (u : Unit {0}) → rules_hold above ls t ≡ Ok u → citable t ≡ true
rules-citable above ls few t u h = let f = went (rules_claimed ls t) _ _ h in claimed-citable ls few t (claimed_so ls t tt f.first)
