use Rattle.std.proofs.Common.{◌≡◌, rules}
use Rattle.flow.proofs.MapLaws.{unit_of, set_mapped, insert_mapped}
use Rattle.flow.proofs.table.FlowTable.put.Goals as goal

pub returns-in-Some-clause-mapped : goal.returns-in-Some-clause-mapped
returns-in-Some-clause-mapped g c es a =
    rw c.ok_or.ensures.value (set_mapped g.met.K.Key.told c.args.self.now es a c.args.key c.set.new.self c.in-Some.row c.args.meter c.set.result c.in-Some.ensures c.set.ensures.replaces)

pub returns-in-None-clause-mapped : goal.returns-in-None-clause-mapped
returns-in-None-clause-mapped g c es a =
    let e : c.map.result ≡ unit_of c.insert.result = search rules in
    rw e (insert_mapped g.met.K.Key.told c.args.self.now es a c.args.key c.insert.new.self c.args.meter c.insert.result c.in-None.ensures c.insert.ensures.places)
