use Rattle.meter.proofs.Following.{follows_none, follows_charge, follows_skip, follows_fill}
use Rattle.meter.proofs.windows.buckets_follow_charges.Goals as goal

pub returns : goal.returns
returns c = record { none = follows_none; charge = follows_charge; skip = follows_skip; fill = follows_fill }
