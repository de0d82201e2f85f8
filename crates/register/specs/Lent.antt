-- What the caller's memory holds after a call.
use Rattle.std.specs.Prelude.{◌≡◌, List, take, drop, ℤ, Ok, Err, Result}
use Rattle.refusals.specs.declared.Refusal.{Refusal}
use Rattle.register.specs.declared.verdict.Verdict as code
use Rattle.register.specs.declared.verdict.Verdict.TheVariants as code-verdict
use Rattle.register.specs.Matching.{Verdict, equal, different}

-- a verdict of the code: the chain of one that says equal stands in the first places of the lent row
abbrev pub told_verdict : code.Verdict → List ℤ → Verdict
told_verdict (code-verdict.Equal n) row = equal (take n row)
told_verdict (code-verdict.Different n) row = different n

-- a match that says equal leaves the places after its chain as they were; any other match leaves all
abbrev pub ChainKept : Result code.Verdict Refusal → (before after : List ℤ) → Type 0
ChainKept (Ok (code-verdict.Equal n)) before after = drop n after ≡ drop n before
ChainKept (Ok (code-verdict.Different n)) before after = after ≡ before
ChainKept (Err e) before after = after ≡ before
