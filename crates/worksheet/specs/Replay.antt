-- Following a chain of line numbers from a load.
use Rattle.std.specs.Prelude.{ℕ, ◌+◌, List, [], ◌∷◌, map, ℤ, pos, ◌-ℤ◌, Ok, Result}
use Rattle.std.specs.List.{range_with_len}
use Rattle.loads.specs.declared.Load.{Load}
use Rattle.loads.specs.declared.exchange.ExchangeFault.{ExchangeFault}
use Rattle.loads.specs.declared.exchange.ExchangeFault.TheVariants as exchange
use Rattle.loads.specs.Answers.{◌>>=◌, marked, wanted}
use Rattle.loads.specs.Loads.{at}
use Rattle.loads.specs.Exchange.{exchanged}
use Rattle.worksheet.specs.declared.equation.Equation.{Equation}
use Rattle.worksheet.specs.declared.fault.SwapFault.{SwapFault}
use Rattle.worksheet.specs.declared.fault.SwapFault.TheVariants.{NoLine, Lacks, Overflow}
use Rattle.worksheet.specs.declared.fault.ReplayFault.{ReplayFault}
use Rattle.worksheet.specs.Claims.{named}

-- an exchange that is refused, as a fault of the swap
abbrev pub as_swap_fault : ExchangeFault → SwapFault
as_swap_fault exchange.Lacks = Lacks
as_swap_fault exchange.Overflow = Overflow

-- the swap that a chain number makes of a load, by the claims of the lines that it may name
abbrev pub swap : List Equation → ℤ → Load → Result Load SwapFault
swap ls z a = wanted (named ls z) NoLine >>= λ e. marked as_swap_fault (exchanged a e.left e.right)

-- a swap's fault and the step at which it was met
abbrev pub at_step : ℕ → SwapFault → ReplayFault
at_step n f = record { step = n; fault = f }

-- the load at the end of a chain; n is the number of its first step
abbrev pub replay : List Equation → ℕ → List ℤ → Load → Result Load ReplayFault
replay ls n [] a = Ok a
replay ls n (z ∷ zs) a = marked (at_step n) (swap ls z a) >>= λ b. replay ls (n + 1) zs b

-- for each article, the end count less the start count
abbrev pub net : Load → Load → List ℤ
net a b = map (λ k. pos (at b k) -ℤ pos (at a k)) (range_with_len 0 8)
