-- One load taken out of a load, and another put in.
use Rattle.std.specs.Prelude.{ℕ, ◌+◌, ◌-◌, Ok, Result}
use Rattle.loads.specs.declared.Load.{Load}
use Rattle.loads.specs.declared.exchange.ExchangeFault.{ExchangeFault}
use Rattle.loads.specs.declared.exchange.ExchangeFault.TheVariants.{Lacks, Overflow}
use Rattle.loads.specs.Answers.{◌>>=◌, check}
use Rattle.loads.specs.Loads.{at, plus, minus}
use Rattle.loads.specs.Tests.{contains, fits}

-- the count of the article at place k, less out's, with into's added
abbrev pub new : (x out into : Load) → ℕ → ℕ
new x out into k = at x k - at out k + at into k

-- x − out + into
abbrev pub swapped : (x out into : Load) → Load
swapped x out into = plus (minus x out) into

-- the exchange is refused where x lacks what is taken out, then where a count passes 65,535
unfoldable pub exchanged : (x out into : Load) → Result Load ExchangeFault
exchanged x out into =
    check (contains x out) Lacks >>= λ _.
    check (fits (swapped x out into)) Overflow >>= λ _.
    Ok (swapped x out into)
