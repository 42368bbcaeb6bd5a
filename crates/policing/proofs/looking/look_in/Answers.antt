use Rattle.std.proofs.Common.{◌≡◌, rules}
use Rattle.std.specs.Option.{option_map}
use Rattle.policing.proofs.Rows.{looked_row}
use Rattle.policing.proofs.looking.look_in.Goals as goal

pub returns-in-Some : goal.returns-in-Some
returns-in-Some g c =
    let e : c.map.result ≡ option_map (λ m. record { row = c.in-Some.row; meter = m }) c.meter.result = search rules in
    rw e (looked_row c.args.table.now c.args.key.now c.in-Some.row c.meter.result c.in-Some.ensures c.meter.ensures)
