use Rattle.std.proofs.Common.{◌≡◌, ◌<◌, ◌≤◌, Err, rules}
use Rattle.policing.proofs.Offers.{at_config, went_back, was_settled, was_flowless}
use Rattle.policing.proofs.cores.Core.offer.Goals as goal

pub returns-then-lt-clause-lawful : goal.returns-then-lt-clause-lawful
returns-then-lt-clause-lawful g c =
    let p = c.args.self.now in
    let o = c.args.offer in
    let f = g.M.Meter.meaning in
    let lt : o.load.moment.0 < p.clock.0 = search rules in
    at_config f p o _ _ (went_back f p o lt)

pub returns-in_err-offer-clause-lawful : goal.returns-in_err-offer-clause-lawful
returns-in_err-offer-clause-lawful g c =
    let p = c.args.self.now in
    let o = c.args.offer in
    let f = g.M.Meter.meaning in
    let late : p.clock.0 ≤ o.load.moment.0 = search rules in
    let e : c.from_residual.result ≡ Err c.in_err-offer.field-0.0 = search rules in
    rw e (at_config f p o _ _ (was_flowless f p o c.in_err-offer.field-0.0 c.in_err-offer.was late))

pub returns-clause-lawful : goal.returns-clause-lawful
returns-clause-lawful g c =
    let p = c.args.self.now in
    let o = c.args.offer in
    let f = g.M.Meter.meaning in
    let late : p.clock.0 ≤ o.load.moment.0 = search rules in
    at_config f p o c.settle.new.self c.settle.result (was_settled f p o c.settle.new.self c.settle.result c.in_ok-offer.field-0 c.in_ok-offer.was late c.settle.ensures.settles)
