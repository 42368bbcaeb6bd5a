-- The rows in use stand first.
use Rattle.std.proofs.Common.{◌<◌, sym, ap, ◌∙◌, arith}
use Rattle.std.proofs.lemmas.List.{get_or-take, length-take-le}
use Rattle.flow.proofs.Whole.{sound}
use Rattle.flow.proofs.table.FlowTable.meter.Goals as goal

pub returns : goal.returns
returns g c =
    let t = c.args.self.now in
    let s = sound t in
    let found = c.in_ok-row.ensures.lookup.3 in
    let lt : c.args.row < t.used = omega (arith, found.0, length-take-le t.used t.rows.now s.room) in
    (lt, λ r at. ap (λ x. x.meter) (found.1 r ∙ get_or-take t.used t.rows.now c.args.row r lt ∙ sym at.1))
