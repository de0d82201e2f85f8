use Rattle.adoption.proofs.Adopting.{what_settled_is_accepted}
use Rattle.adoption.proofs.theorems.settled_is_accepted.Goals as goal

pub returns : goal.returns
returns c = what_settled_is_accepted
