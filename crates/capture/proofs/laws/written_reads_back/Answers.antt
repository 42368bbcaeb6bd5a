use Rattle.capture.proofs.Agreeing.{frames_lie}
use Rattle.capture.proofs.Entries.{stays}
use Rattle.capture.proofs.Spelt.{numbers_spelt}
use Rattle.capture.proofs.laws.written_reads_back.Goals as goal

pub returns-clause-frames : goal.returns-clause-frames
returns-clause-frames c = frames_lie

pub returns-clause-stays : goal.returns-clause-stays
returns-clause-stays c = stays

pub returns-clause-numbers : goal.returns-clause-numbers
returns-clause-numbers c = numbers_spelt
