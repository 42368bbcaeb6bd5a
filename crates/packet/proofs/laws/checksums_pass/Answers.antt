-- The laws, each proved apart.
use Rattle.packet.proofs.Rights.{checksum_passes}
use Rattle.packet.proofs.Receiving.{sum_folds, words_sum_to_ones}
use Rattle.packet.proofs.laws.checksums_pass.Goals as goal

pub returns : goal.returns
returns c = record { passes = checksum_passes; folds = sum_folds; ones = words_sum_to_ones }
