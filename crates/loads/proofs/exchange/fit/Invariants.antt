use Rattle.std.proofs.Common.{◌≡◌, leb, take}
use Rattle.std.specs.List.{list_all}
use Rattle.loads.proofs.exchange.fit.Given as goal

-- all counts so far fit
abbrev pub invariant-loop-count : goal.invariant-loop-count
invariant-loop-count l = l.fit ≡ list_all (λ n. leb n 65535) (take l.count-index l.counts)
