-- No row is in use, and each chain ends at once.
use Rattle.std.proofs.Common.{arith}
use Rattle.flow.proofs.Grown.{empty_sound}
use Rattle.flow.proofs.table.FlowTable.new.Goals as goal

pub invariant_of-result : goal.invariant_of-result
invariant_of-result g c = record { whole = ∣ empty_sound _ c.args.rows.now (omega arith) ∣₁ }
