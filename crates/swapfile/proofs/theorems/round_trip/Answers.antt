use Rattle.swapfile.proofs.ReadsBack.{reads_back}
use Rattle.swapfile.proofs.NoOther.{no_other}
use Rattle.swapfile.proofs.Narrow.{writes_bytes}
use Rattle.swapfile.proofs.WorkedFile.{written, read}
use Rattle.swapfile.proofs.theorems.round_trip.Goals as goal

pub returns : goal.returns
returns c = record { back = reads_back; only = no_other; bytes = writes_bytes; worked = (written, read) }
