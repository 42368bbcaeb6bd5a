-- A carry of one is worth 65,536 - 1.
use Rattle.std.proofs.Common.{◌+◌, ◌/◌, arith}
use Rattle.packet.proofs.checksum.folded.Goals as goal

pub loop-sum-preserved : goal.loop-sum-preserved
loop-sum-preserved c =
    let was = c.loop-sum.invariant.0 in
    ((was.0 + c.loop-sum.sum / 65536, omega (arith, was.1)), λ e. omega arith)
