use Rattle.adoption.proofs.Adopting.{adopted_is_what_the_file_has}
use Rattle.adoption.proofs.theorems.adopted_is_the_file.Goals as goal

pub returns : goal.returns
returns c = adopted_is_what_the_file_has
