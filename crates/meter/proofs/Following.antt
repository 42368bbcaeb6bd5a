-- A bucket that follows some charges goes on to follow them with one more.
-- Assumes nothing.
use Rattle.std.proofs.Common.{◌≡◌, ℕ, ◌-◌, ◌*◌, ◌≤◌, List, [], ◌∷◌, ◌++◌, le_trans, le_refl, arith}
use Rattle.meter.specs.declared.measures.Bucket.{Bucket}
use Rattle.meter.specs.Rules.{level}
use Rattle.meter.specs.Windows.{Charge, charge_of, By, fill}
use Rattle.meter.specs.Laws.{Follows, FollowsNone, FollowsCharge, FollowsSkip, FollowsFill}
use Rattle.meter.proofs.Fill.{allowed_in_parts, allowed_at_once, fill_later, fill_charge}
use Rattle.meter.proofs.Held.{windows_hold, admitted_none, admitted_push}

by_push : (t : ℕ) (cs : List Charge) (c : Charge) → t ≤ c.at → By t cs → By c.at (cs ++ (c ∷ []))
by_push t [] c le by = (le_refl c.at, tt)
by_push t (x ∷ xs) c le by = (le_trans by.0 le, by_push t xs c le by.1)

-- with no charge in between, the level falls at the rate, down to nothing
pub level_later : (b : Bucket) (t u : ℕ) → b.last.0 ≤ t → t ≤ u → level b u ≡ level b t - b.limit.rate * (u - t)
level_later b t u past le = omega (arith, allowed_in_parts b.limit.rate b.last.0 t u past le)

module _ (b : Bucket) (clock : ℕ) (cs : List Charge) (f : Follows b clock cs) where
  pub level_is : (t : ℕ) → clock ≤ t → level b t ≡ fill b.limit.rate cs t
  level_is t le =
      omega (arith, level_later b clock t f.past le, fill_later b.limit.rate cs clock t le f.by, f.fill)

pub follows_none : FollowsNone
follows_none l = record { by = tt; past = omega arith; fill = omega arith; admitted = admitted_none l.rate l.depth.0 }

pub follows_charge : FollowsCharge
follows_charge b clock cs t c f le room =
    let is = level_is b clock cs f t le in
    record {
      by = by_push clock cs (charge_of t c) le f.by;
      past = le_refl t;
      fill = omega (arith, is, fill_charge b.limit.rate cs (charge_of t c), allowed_at_once b.limit.rate t);
      admitted = admitted_push b.limit.rate b.limit.depth.0 cs (charge_of t c) f.admitted (omega (arith, is));
    }

pub follows_skip : FollowsSkip
follows_skip b clock cs t f le low =
    let is = level_is b clock cs f t le in
    record {
      by = by_push clock cs (charge_of t 0) le f.by;
      past = le_trans f.past le;
      fill = omega (arith, is, fill_charge b.limit.rate cs (charge_of t 0));
      admitted = admitted_push b.limit.rate b.limit.depth.0 cs (charge_of t 0) f.admitted (omega (arith, is));
    }

pub follows_fill : FollowsFill
follows_fill b clock cs f =
    record { fill = level_is b clock cs f; windows = (windows_hold b.limit.rate b.limit.depth.0 cs).0 f.admitted }
