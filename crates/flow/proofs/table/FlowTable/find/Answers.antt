use Rattle.flow.proofs.Whole.{sound}
use Rattle.flow.proofs.table.FlowTable.find.Goals as goal

pub returns : goal.returns
returns g c = c.find_row.ensures c.args.self.now.used (sound c.args.self.now)
