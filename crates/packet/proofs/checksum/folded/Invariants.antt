-- What is left folds to what the whole folds to.
use Rattle.std.proofs.Common.{◌≡◌, ℕ, ◌+◌, ◌*◌}
use Rattle.packet.proofs.checksum.folded.Given as goal

abbrev pub invariant-loop-sum : goal.invariant-loop-sum
invariant-loop-sum l = ((q : ℕ) × (l.initial.sum ≡ 65535 * q + l.sum)) × (l.sum ≡ 0 → l.initial.sum ≡ 0)

abbrev pub decreases-loop-sum : goal.decreases-loop-sum
decreases-loop-sum l = l.sum
