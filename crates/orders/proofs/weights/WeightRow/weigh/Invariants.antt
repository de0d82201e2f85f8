use Rattle.std.proofs.Common.{◌≡◌, ◌*◌, ◌≤◌, length, get_or}
use Rattle.loads.specs.Loads.{at}
use Rattle.loads.specs.Totals.{sum_below}
use Rattle.orders.proofs.weights.WeightRow.weigh.Given as goal

abbrev pub invariant-loop-weight : goal.invariant-loop-weight
invariant-loop-weight l =
    (l.sum ≡ sum_below (length l.yielded) (λ k. get_or l.self.0 k 0 * at l.load k)) × (l.sum ≤ length l.yielded * (65535 * 65535))
