use Rattle.soundness.proofs.Meaning.{rounds_are_sound}
use Rattle.soundness.proofs.theorems.rounds_are_sound.Goals as goal

pub returns : goal.returns
returns c = rounds_are_sound
