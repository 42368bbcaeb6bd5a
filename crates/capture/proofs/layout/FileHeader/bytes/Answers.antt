-- The twenty-four bytes are those of the seven numbers, which read as the header.
use Rattle.std.proofs.Common.{◌≡◌, ◌++◌, ap, ◌∙◌, arith}
use Rattle.std.proofs.lemmas.Grind.{common_steps}
use Rattle.capture.specs.Headers.{header_bytes, header_of, Fit}
use Rattle.capture.proofs.FileHeads.{header_again}
use Rattle.capture.proofs.layout.FileHeader.bytes.Goals as goal

pub returns-clause-again : goal.returns-clause-again
returns-clause-again c rest =
    let h = c.args.self.now in
    let is : c.put-7.new.bytes ≡ header_bytes h = grind (arith, common_steps) in
    let fit : Fit h = record { zone = c.put-4.ensures.bound; accuracy = c.put-5.ensures.bound; snap = c.put-6.ensures.bound } in
    ap (λ l. header_of (l ++ rest)) is ∙ header_again h rest fit
