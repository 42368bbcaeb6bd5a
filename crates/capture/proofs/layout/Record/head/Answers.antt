-- The sixteen bytes are those of the four numbers, which read as the record.
use Rattle.std.proofs.Common.{◌≡◌, ◌++◌, sym, ap, ◌∙◌, arith}
use Rattle.std.proofs.lemmas.Grind.{common_steps}
use Rattle.capture.specs.Records.{head_of, entry_of, Good, at_hand}
use Rattle.capture.proofs.Entries.{read_again}
use Rattle.capture.proofs.layout.Record.head.Goals as goal

pub returns-clause-again : goal.returns-clause-again
returns-clause-again c rest =
    let o = c.args.order in
    let r = c.args.self.now in
    let is : c.put-4.new.bytes ≡ head_of o (entry_of r) = grind (arith, common_steps) in
    let good : Good (entry_of r) = record { seconds = c.put.ensures.bound; numbers = sym c.in_ok-check.ensures.value } in
    ap (λ l. at_hand o ((l ++ r.frame.now) ++ rest)) is ∙ read_again o (entry_of r) rest good
