-- Laws of checksums.
-- AllButChecksum: a header that is right but for its checksum
-- ChecksumPasses: with the computed checksum it is right
-- SumFolds: the sum in ones' complement is the plain sum with its carries added back in
-- WordsSumToOnes: all words of a right header, the checksum among them, sum to sixteen ones
-- Assumes nothing.
use Rattle.std.specs.Prelude.{◌≡◌, ℕ, ◌/◌, ◌%◌, ◌<◌, ◌≤◌, true, List, length, sum, slice_index}
use Rattle.packet.specs.Layout.{byte, field16, total_at, checksum_at, words_of, ones_sum, header_length, header_bytes, checksum_of, header_right}
use Rattle.packet.specs.Sums.{Folds}
use Rattle.packet.specs.Marking.{with_field16}

pub record AllButChecksum (p : List ℕ) : Type 0 where
  pub version : byte p 0 / 16 ≡ 4
  pub words : 5 ≤ byte p 0 % 16
  pub there : header_length p ≤ length p
  pub total : header_length p ≤ field16 p total_at

abbrev pub ChecksumPasses : Type 0
ChecksumPasses = (p : List ℕ) → AllButChecksum p → header_right (with_field16 p checksum_at (checksum_of (header_bytes p))) ≡ true

abbrev pub SumFolds : Type 0
SumFolds = (ws : List ℕ) → ((i : ℕ) → slice_index ws i < 65536) → Folds (sum ws) (ones_sum ws)

abbrev pub WordsSumToOnes : Type 0
WordsSumToOnes =
    (p : List ℕ) → ((i : ℕ) → byte p i < 256) → header_right p ≡ true → ones_sum (words_of (header_bytes p)) ≡ 65535
