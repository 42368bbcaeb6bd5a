-- What is listed is what was handed out of the blocks so far.
use Rattle.std.proofs.Common.{◌≡◌, false, take}
use Rattle.std.specs.List.{flat_map}
use Rattle.capture.specs.Indexing.{Listed}
use Rattle.capture.proofs.indexing.index_blocks.Given as goal

abbrev pub invariant-loop-block : goal.invariant-loop-block
invariant-loop-block l = (l.indexer.capture.closed ≡ false) × Listed l.indexer (flat_map (λ x. x.now) (take l.block-index l.blocks))
