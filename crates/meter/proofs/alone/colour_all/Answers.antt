-- Behind the last arrival nothing is left.
use Rattle.meter.proofs.Running.{ran}
use Rattle.meter.proofs.alone.colour_all.Goals as goal

pub returns-clause-cases : goal.returns-clause-cases
returns-clause-cases g c =
    let inv = c.loop-arrival.invariant in
    ran g.M.Meter.meaning _ _ _ _ _ (g.met.M.Meter.sound c.args.meter.now) c.loop-arrival-test.false inv.2 inv.3
