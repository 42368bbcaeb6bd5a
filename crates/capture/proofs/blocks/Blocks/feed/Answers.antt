-- The bytes at hand are those before, with the block behind them.
use Rattle.std.proofs.Common.{◌+◌, ◌^◌, ◌<◌, ◌++◌, length, refl, ap, ◌∙◌, arith}
use Rattle.capture.specs.Feeding.{unread_of}
use Rattle.capture.proofs.Passing.{unread_fits, grown}
use Rattle.capture.proofs.blocks.Blocks.feed.Goals as goal

pub returns : goal.returns
returns c =
    let b = c.args.self.now in
    let block = c.args.block.now in
    let same = c.unread-unread.ensures.value in
    let short : b.place + (length (unread_of b) + length block) < 2 ^ 64 =
    omega (arith, c.if-block-end.false, unread_fits b, ap length same) in
    let all =
    c.in_ok-append_both.ensures.items
    ∙ ap (λ l. l ++ (c.unread-unread.result.now ++ block)) c.new-held.ensures.items ∙ ap (λ l. l ++ block) same in
    record {
      cases = grown b _ block c.if-self.false short refl refl refl all;
    }
