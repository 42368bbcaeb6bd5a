use Rattle.capture.proofs.Agreeing.{reads_agree, indexes_agree}
use Rattle.capture.proofs.laws.readings_agree.Goals as goal

pub returns : goal.returns
returns c = record { reads = reads_agree; indexes = indexes_agree }
