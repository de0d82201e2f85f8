-- What a settled register promises of its answers.
use Rattle.std.specs.Prelude.{◌≡◌, true, ◌↔◌, Ok}
use Rattle.loads.specs.declared.Load.{Load}
use Rattle.loads.specs.Tests.{fits}
use Rattle.worksheet.specs.Replay.{replay}
use Rattle.rewriting.specs.Swaps.{equations, Joined, Standard}
use Rattle.register.specs.Contents.{Contents, rules_in, lines_of}
use Rattle.register.specs.Matching.{Verdict, equal, different, says_equal}

-- swaps of the book join a load to b, and no rule fits b
pub record StandardOf (c : Contents) (a b : Load) : Type 0 where
  pub joined : ∥ Joined c.book a b ∥₁
  pub standard : Standard (equations (rules_in c.sheet)) b

-- the chain of a verdict that says equal leads from the first load to the second, whose counts go up to 65,535
abbrev pub ChainLeads : Contents → Load → Load → Verdict → Type 0
ChainLeads c a b (equal chain) = fits b ≡ true → replay (lines_of c) 1 chain a ≡ Ok b
ChainLeads c a b (different steps) = Unit {0}

-- a verdict says equal exactly when swaps of the book join the two loads, and its chain then replays from the first to the second
pub record MatchIsRight (c : Contents) (a b : Load) (v : Verdict) : Type 0 where
  pub tells : (says_equal v ≡ true) ↔ ∥ Joined c.book a b ∥₁
  pub leads : ChainLeads c a b v
