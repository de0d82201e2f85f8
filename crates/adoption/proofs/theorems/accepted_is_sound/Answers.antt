use Rattle.adoption.proofs.Adopting.{accepted_is_sound}
use Rattle.adoption.proofs.theorems.accepted_is_sound.Goals as goal

pub returns : goal.returns
returns c = accepted_is_sound
