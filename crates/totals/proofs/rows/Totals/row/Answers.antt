use Rattle.std.proofs.Common.{ap, ◌∙◌}
use Rattle.std.specs.List.{slice_get}
use Rattle.totals.proofs.Counted.{copied_at, row_is}
use Rattle.totals.proofs.rows.Totals.row.Goals as goal

pub returns : goal.returns
returns c g h is =
    let t = c.args.self.now in
    let k = c.args.node in
    c.copied.ensures ∙ copied_at t.rows c.from.result c.get.result c.get.ensures.lookup ∙ ap (slice_get t.rows) c.from.ensures ∙ row_is g h t k is
