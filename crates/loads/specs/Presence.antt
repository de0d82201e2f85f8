-- Which articles a load has.
use Rattle.std.specs.Prelude.{ℕ, sum_by}
use Rattle.loads.specs.Bits.{bit, bits}
use Rattle.loads.specs.declared.Load.{Load}

-- the presence byte: bit 0 is for article 1
abbrev pub presence : Load → ℕ
presence x = bits x.counts

-- how many articles the load has a piece of
abbrev pub kinds : Load → ℕ
kinds x = sum_by bit x.counts
