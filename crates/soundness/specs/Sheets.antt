-- When a worksheet shows what it claims.
use Rattle.std.specs.Prelude.{◌≡◌, true, List, [], ◌∷◌, ◌++◌, map, pos, Some, Ok}
use Rattle.loads.specs.Tests.{fits}
use Rattle.worksheet.specs.declared.equation.Equation.{Equation}
use Rattle.worksheet.specs.declared.rule.Rule.{Rule}
use Rattle.worksheet.specs.Claims.{named}
use Rattle.worksheet.specs.Derivations.{Derivation}
use Rattle.worksheet.specs.Replay.{replay}
use Rattle.rewriting.specs.Swaps.{equation_of, Joined}

-- the code can hold both loads
abbrev pub Small : Equation → Type 0
Small e = (fits e.left ≡ true) × (fits e.right ≡ true)

-- the claims of all lines: the equations of the book, then the added lines
abbrev pub lines : List Equation → List Derivation → List Equation
lines book added = book ++ map (λ d. d.claim) added

-- every line replays from its left load to its right load by the lines before it, so none cites itself or a later one
abbrev pub LinesReplay : List Equation → List Derivation → Type 0
LinesReplay known [] = Unit {0}
LinesReplay known (d ∷ ds) = (replay known 1 d.chain d.claim.left ≡ Ok d.claim.right) × (fits d.claim.left ≡ true) × LinesReplay (known ++ (d.claim ∷ [])) ds

-- the claim is joined by swaps of the book
abbrev pub FollowsFrom : List Equation → Equation → Type 0
FollowsFrom book e = Joined book e.left e.right

-- the rule is what its line claims
abbrev pub Claimed : List Equation → Rule → Type 0
Claimed ls r = named ls (pos r.line) ≡ Some (equation_of r)
