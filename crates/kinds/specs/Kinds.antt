-- What the numbers of each kind of meter stand for, whatever they are.
-- grains_a_byte, grains_a_microsecond: how bytes, and the microseconds of an interval, are counted
-- held: the bucket that plain numbers stand for
-- gcra_meaning, token_meaning, single_meaning, two_meaning, any_meaning: the meter that they stand for
-- Assumes nothing.
use Rattle.std.specs.Prelude.{ℕ, ◌+◌, ◌*◌, min, max, Some, None}
use Rattle.meter.specs.declared.measures.Bucket.{Bucket}
use Rattle.meter.specs.declared.measures.State.{State}
use Rattle.meter.specs.Rules.{grains}
use Rattle.kinds.specs.declared.profiles.AnyMeter.{AnyMeter}
use Rattle.kinds.specs.declared.profiles.AnyMeter.TheVariants.{Vs, Lb, Tb, Sr, Tr}
use Rattle.kinds.specs.declared.profiles.Gcra.{Gcra}
use Rattle.kinds.specs.declared.profiles.Level.{Level}
use Rattle.kinds.specs.declared.profiles.SingleRate.{SingleRate}
use Rattle.kinds.specs.declared.profiles.TokenBucket.{TokenBucket}
use Rattle.kinds.specs.declared.profiles.TwoRate.{TwoRate}

abbrev pub grains_a_byte : ℕ
grains_a_byte = 1000000

abbrev pub grains_a_microsecond : ℕ
grains_a_microsecond = 1

-- a rate of 0 stands for 1, and a fill above the depth for the depth
abbrev pub held : ℕ → ℕ → Level → Bucket
held rate depth l =
    record { limit = record { rate = max rate 1; depth = grains depth }; fill = grains (min l.fill.0 depth); last = l.last }

abbrev pub gcra_meaning : Gcra → State
gcra_meaning m =
    record { base = m.increment; per_byte = grains 0; all = held 1 m.depth.0 m.all; green = None; excess = None }

abbrev pub token_meaning : TokenBucket → State
token_meaning m =
    record { base = grains 0; per_byte = grains grains_a_byte; all = held m.rate (m.burst * grains_a_byte) m.all; green = None; excess = None }

abbrev pub single_meaning : SingleRate → State
single_meaning m =
    record {
      base = grains 0;
      per_byte = grains grains_a_byte;
      all = held m.cir ((m.cbs + m.ebs) * grains_a_byte) m.levels.all;
      green = Some (held m.cir (m.cbs * grains_a_byte) m.levels.green);
      excess = Some (grains (m.ebs * grains_a_byte));
    }

abbrev pub two_meaning : TwoRate → State
two_meaning m =
    record {
      base = grains 0;
      per_byte = grains grains_a_byte;
      all = held m.pir (m.pbs * grains_a_byte) m.levels.all;
      green = Some (held m.cir (m.cbs * grains_a_byte) m.levels.green);
      excess = None;
    }

abbrev pub any_meaning : AnyMeter → State
any_meaning (Vs m) = gcra_meaning m
any_meaning (Lb m) = gcra_meaning m
any_meaning (Tb m) = token_meaning m
any_meaning (Sr m) = single_meaning m
any_meaning (Tr m) = two_meaning m
