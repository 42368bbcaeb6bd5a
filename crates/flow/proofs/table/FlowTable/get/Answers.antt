use Rattle.flow.proofs.MapLaws.{read_is, missing_none}
use Rattle.flow.proofs.table.FlowTable.get.Goals as goal

pub returns-in_err-find : goal.returns-in_err-find
returns-in_err-find g c es a =
    rw c.from_residual.ensures (missing_none g.met.K.Key.told c.args.self.now es a c.args.key.now c.in_err-find.ensures)

pub returns : goal.returns
returns g c es a =
    read_is g.met.K.Key.told c.args.self.now es a c.args.key.now c.in_ok-find.field-0 c.meter.result c.in_ok-find.ensures c.meter.ensures
