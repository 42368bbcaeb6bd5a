use Rattle.std.proofs.Common.{◌≡◌, [], string_bytes, sym, ◌∙◌, append-nil}
use Rattle.colour.specs.Report.{text_from}
use Rattle.colour.proofs.session.colour_text.Goals as goal

pub returns : goal.returns
returns c =
    let input = c.args.input.now in
    let fed = simp (append-nil, c.new-out.ensures.bytes) at (c.in_ok-feed.ensures []) in
    let whole : string_bytes c.finish.new.out ≡ text_from c.new-session.result input = c.in_ok-finish.ensures ∙ sym fed in
    record { value = whole ∙ c.new-session.ensures.value input; told = whole ∙ c.new-session.ensures.told input }
