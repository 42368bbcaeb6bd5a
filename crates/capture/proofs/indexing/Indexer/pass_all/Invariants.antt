-- What is listed so far is what was handed out so far; the bytes at hand grow fewer.
use Rattle.std.proofs.Common.{◌≡◌, ℕ, List, length}
use Rattle.capture.specs.Feeding.{unread_of}
use Rattle.capture.specs.Indexing.{Listed}
use Rattle.capture.proofs.indexing.Indexer.pass_all.Given as goal

abbrev pub invariant-passing : goal.invariant-passing
invariant-passing l =
    (l.self.capture.closed ≡ l.initial.self.capture.closed)
    × ((input : List ℕ) → Listed l.initial.self input → Listed l.self input)

abbrev pub decreases-passing : goal.decreases-passing
decreases-passing l = length (unread_of l.self.capture)
