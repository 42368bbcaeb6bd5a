-- The plain sum, folded, is the sum in ones' complement.
use Rattle.std.proofs.Common.{◌≡◌, ◌+◌, take, drop, sum, arith}
use Rattle.std.proofs.lemmas.Grind.{common_steps}
use Rattle.packet.specs.Layout.{words_of}
use Rattle.packet.proofs.Words.{checksum_is}
use Rattle.packet.proofs.checksum.checksum.Goals as goal

pub returns : goal.returns
returns c =
    let h = c.args.header.now in
    let all : c.word_sum.result + c.word_sum-2.result ≡ sum (words_of (take 10 h)) + sum (words_of (drop 12 h)) = grind (arith, common_steps) in
    checksum_is h _ c.folded.result (λ i. omega (arith, c.type_inv.header i)) all c.folded.ensures
