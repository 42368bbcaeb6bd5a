-- The steps by which each document colours packets, in its own terms: arrival times, levels and tokens.
-- Outcome: a colour, and what the algorithm then keeps
-- vs_step: virtual scheduling (I.371); lb_step: the continuous-state leaky bucket (I.371); tb_step: a token bucket
-- sr_aware, sr_blind: the single rate three colour marker (RFC 2697); tr_aware, tr_blind: the two rate one (RFC 2698)
-- stepped: a run over a list of arrivals; documented: the run of what was bought
-- Rising: arrivals whose moments never fall
-- Assumes nothing.
use Rattle.std.specs.Prelude.{ℕ, ◌+◌, ◌-◌, ◌*◌, ◌≤◌, min, max, Bool, cond, ◌&&◌, List, [], ◌∷◌, map, Ok, Err, nat_le, nat_lt}
use Rattle.meter.specs.declared.measures.Arrival.{Arrival}
use Rattle.meter.specs.declared.measures.PacketColour.{PacketColour}
use Rattle.meter.specs.declared.measures.PacketColour.TheVariants.{Green, Yellow, Red}
use Rattle.meter.specs.declared.measures.Refusal.TheVariants.{BadSize, BadMoment}
use Rattle.meter.specs.Rules.{largest_size, largest_moment}
use Rattle.meter.specs.Runs.{Answer}
use Rattle.meter.specs.declared.measures.Mode.{Mode}
use Rattle.meter.specs.declared.measures.Mode.TheVariants.{Blind, Aware}
use Rattle.kinds.specs.declared.profiles.Profile.{Profile}
use Rattle.kinds.specs.declared.profiles.Profile.TheVariants.{Vs, Lb, Tb, Sr, Tr}
use Rattle.kinds.specs.Kinds.{grains_a_byte}

pub record Outcome (D : Type 0) : Type 0 where
  pub colour : PacketColour
  pub keeps : D

abbrev pub at : Arrival → ℕ
at a = a.moment.0

-- a packet's tokens: a token is a grain, so that a rate of R bytes a second gives R tokens a microsecond
abbrev pub tokens : Arrival → ℕ
tokens a = grains_a_byte * a.size.0

-- GCRA and the token bucket know no colours: what conforms keeps its own, what does not is red and changes nothing,
-- and so is what arrives red
abbrev pub uncoloured : {D : Type 0} → PacketColour → Bool → D → D → Outcome D
uncoloured Red conforms d next = record { colour = Red; keeps = d }
uncoloured Green conforms d next = cond conforms (record { colour = Green; keeps = next }) (record { colour = Red; keeps = d })
uncoloured Yellow conforms d next = cond conforms (record { colour = Yellow; keeps = next }) (record { colour = Red; keeps = d })

-- Virtual scheduling keeps the theoretical arrival time. A packet more than L before it does not conform;
-- any other moves it to T behind itself, or behind the packet where that came later.
abbrev pub vs_step : ℕ → ℕ → ℕ → Arrival → Outcome ℕ
vs_step T L tat a = uncoloured a.colour (nat_le tat (at a + L)) tat (max (at a) tat + T)

-- The leaky bucket keeps its level at the last conforming packet, and that moment. It drains by one a microsecond.
pub record Leaky : Type 0 where
  pub level : ℕ
  pub last : ℕ

abbrev pub drained : Leaky → ℕ → ℕ
drained b t = b.level - (t - b.last)

abbrev pub lb_step : ℕ → ℕ → Leaky → Arrival → Outcome Leaky
lb_step T L b a =
    uncoloured a.colour (nat_le (drained b (at a)) L) b (record { level = drained b (at a) + T; last = at a })

-- One or two token counts, and the moment up to which they are filled.
pub record Bucket : Type 0 where
  pub count : ℕ
  pub up_to : ℕ

pub record Buckets : Type 0 where
  pub first : ℕ
  pub second : ℕ
  pub up_to : ℕ

-- The token bucket is filled at R up to B.
abbrev pub tb_step : ℕ → ℕ → Bucket → Arrival → Outcome Bucket
tb_step R B b a =
    let have = min (B * grains_a_byte) (b.count + R * (at a - b.up_to)) in
    uncoloured a.colour (nat_le (tokens a) have) (record { count = have; up_to = at a }) (record { count = have - tokens a; up_to = at a })

-- RFC 2697. CIR fills Tc up to CBS; what Tc has no place for fills Te up to EBS.
abbrev pub sr_filled : ℕ → ℕ → ℕ → Buckets → ℕ → Buckets
sr_filled cir cbs ebs b t =
    let came = b.first + cir * (t - b.up_to) in
    record {
      first = min (cbs * grains_a_byte) came;
      second = min (ebs * grains_a_byte) (b.second + (came - cbs * grains_a_byte));
      up_to = t;
    }

abbrev pub took : ℕ → ℕ → Buckets → Buckets
took c e b = record { first = b.first - c; second = b.second - e; up_to = b.up_to }

-- Blind: green from Tc, else yellow from Te, else red.
abbrev pub sr_blindly : ℕ → Buckets → Outcome Buckets
sr_blindly n b =
    cond (nat_le n b.first) (record { colour = Green; keeps = took n 0 b })
    (cond (nat_le n b.second) (record { colour = Yellow; keeps = took 0 n b })
    (record { colour = Red; keeps = b }))

-- Aware: green from Tc only where it arrived green, yellow from Te only where it did not arrive red.
abbrev pub sr_awarely : PacketColour → ℕ → Buckets → Outcome Buckets
sr_awarely Green n b = sr_blindly n b
sr_awarely Yellow n b =
    cond (nat_le n b.second) (record { colour = Yellow; keeps = took 0 n b }) (record { colour = Red; keeps = b })
sr_awarely Red n b = record { colour = Red; keeps = b }

abbrev pub sr_blind : ℕ → ℕ → ℕ → Buckets → Arrival → Outcome Buckets
sr_blind cir cbs ebs b a = sr_blindly (tokens a) (sr_filled cir cbs ebs b (at a))

abbrev pub sr_aware : ℕ → ℕ → ℕ → Buckets → Arrival → Outcome Buckets
sr_aware cir cbs ebs b a = sr_awarely a.colour (tokens a) (sr_filled cir cbs ebs b (at a))

-- RFC 2698. PIR fills Tp up to PBS, and CIR fills Tc up to CBS.
abbrev pub tr_filled : ℕ → ℕ → ℕ → ℕ → Buckets → ℕ → Buckets
tr_filled cir cbs pir pbs b t =
    record {
      first = min (pbs * grains_a_byte) (b.first + pir * (t - b.up_to));
      second = min (cbs * grains_a_byte) (b.second + cir * (t - b.up_to));
      up_to = t;
    }

-- Blind: red past Tp, else yellow past Tc, else green.
abbrev pub tr_blindly : ℕ → Buckets → Outcome Buckets
tr_blindly n b =
    cond (nat_lt b.first n) (record { colour = Red; keeps = b })
    (cond (nat_lt b.second n) (record { colour = Yellow; keeps = took n 0 b })
    (record { colour = Green; keeps = took n n b }))

-- Aware: what arrived red is red, and what arrived yellow is at best yellow.
abbrev pub tr_awarely : PacketColour → ℕ → Buckets → Outcome Buckets
tr_awarely Green n b = tr_blindly n b
tr_awarely Yellow n b =
    cond (nat_lt b.first n) (record { colour = Red; keeps = b }) (record { colour = Yellow; keeps = took n 0 b })
tr_awarely Red n b = record { colour = Red; keeps = b }

abbrev pub tr_blind : ℕ → ℕ → ℕ → ℕ → Buckets → Arrival → Outcome Buckets
tr_blind cir cbs pir pbs b a = tr_blindly (tokens a) (tr_filled cir cbs pir pbs b (at a))

abbrev pub tr_aware : ℕ → ℕ → ℕ → ℕ → Buckets → Arrival → Outcome Buckets
tr_aware cir cbs pir pbs b a = tr_awarely a.colour (tokens a) (tr_filled cir cbs pir pbs b (at a))

-- Each arrival after the ones before it. One whose size or moment no meter takes is refused, and is no step.
abbrev pub stepped : {D : Type 0} → (D → Arrival → Outcome D) → D → List Arrival → List Answer
stepped f d [] = []
stepped f d (a ∷ rest) =
    cond (nat_lt 0 a.size.0 && nat_le a.size.0 largest_size)
    (cond (nat_le (at a) largest_moment) (Ok (f d a).colour ∷ stepped f (f d a).keeps rest) (Err BadMoment ∷ stepped f d rest))
    (Err BadSize ∷ stepped f d rest)

-- At first: no packet yet, nothing in the leaky bucket, all tokens there.
abbrev pub full : ℕ → ℕ → Buckets
full first second = record { first = first * grains_a_byte; second = second * grains_a_byte; up_to = 0 }

abbrev pub aware : Profile → List Arrival → List Answer
aware (Vs T L) arrivals = stepped (vs_step T L) 0 arrivals
aware (Lb T L) arrivals = stepped (lb_step T L) (record { level = 0; last = 0 }) arrivals
aware (Tb R B) arrivals = stepped (tb_step R B) (record { count = B * grains_a_byte; up_to = 0 }) arrivals
aware (Sr cir cbs ebs) arrivals = stepped (sr_aware cir cbs ebs) (full cbs ebs) arrivals
aware (Tr cir cbs pir pbs) arrivals = stepped (tr_aware cir cbs pir pbs) (full pbs cbs) arrivals

-- a blind meter takes every packet as green
abbrev pub as_green : Arrival → Arrival
as_green a = record { moment = a.moment; size = a.size; colour = Green }

abbrev pub greened : List Arrival → List Arrival
greened arrivals = map as_green arrivals

abbrev pub blind : Profile → List Arrival → List Answer
blind (Vs T L) arrivals = aware (Vs T L) (greened arrivals)
blind (Lb T L) arrivals = aware (Lb T L) (greened arrivals)
blind (Tb R B) arrivals = aware (Tb R B) (greened arrivals)
blind (Sr cir cbs ebs) arrivals = stepped (sr_blind cir cbs ebs) (full cbs ebs) arrivals
blind (Tr cir cbs pir pbs) arrivals = stepped (tr_blind cir cbs pir pbs) (full pbs cbs) arrivals

abbrev pub documented : Mode → Profile → List Arrival → List Answer
documented Aware p arrivals = aware p arrivals
documented Blind p arrivals = blind p arrivals

-- the moments never fall
abbrev pub Rising : ℕ → List Arrival → Type 0
Rising t [] = Unit {0}
Rising t (a ∷ rest) = (t ≤ at a) × Rising (at a) rest
