-- The laws of fills, windows and buckets.
-- FillIsWindows: the fill bounds every window; FillLater: it falls at the rate; FillCharge: a charge raises it
-- WindowsHold: charges that are admitted, and windows that keep to depth, are the same
-- Follows: a bucket has the fill of some charges, each of which was admitted
-- FollowsNone, FollowsCharge, FollowsSkip: an empty bucket, one more charge, and one that is not counted
-- Filled: what a bucket that follows charges has; FollowsFill: that it has it
-- Assumes nothing.
use Rattle.std.specs.Prelude.{◌≡◌, ℕ, ◌+◌, ◌-◌, ◌*◌, ◌≤◌, ◌↔◌, List, [], ◌∷◌, ◌++◌}
use Rattle.meter.specs.declared.measures.Bucket.{Bucket}
use Rattle.meter.specs.declared.measures.Limit.{Limit}
use Rattle.meter.specs.Rules.{level, filled, empty}
use Rattle.meter.specs.Windows.{Charge, charge_of, By, fill, Within, Admitted, WindowsWithin}

-- The fill is at most d exactly when every window to now costs at most d more than the rate allows.
abbrev pub FillIsWindows : Type 0
FillIsWindows = (rate : ℕ) (cs : List Charge) (now d : ℕ) → (fill rate cs now ≤ d) ↔ Within rate cs now d

-- With no charge in between, the fill falls at the rate, down to nothing.
abbrev pub FillLater : Type 0
FillLater = (rate : ℕ) (cs : List Charge) (t u : ℕ) → t ≤ u → By t cs → fill rate cs u ≡ fill rate cs t - rate * (u - t)

-- A charge raises the fill at its moment by its cost.
abbrev pub FillCharge : Type 0
FillCharge = (rate : ℕ) (cs : List Charge) (c : Charge) → fill rate (cs ++ (c ∷ [])) c.at ≡ fill rate cs c.at + c.cost

-- Each charge left the fill at depth or below exactly when every window keeps to rate and depth.
abbrev pub WindowsHold : Type 0
WindowsHold = (rate depth : ℕ) (cs : List Charge) → Admitted rate depth cs ↔ WindowsWithin rate depth cs

-- By the clock, which is no sooner than any charge, the bucket has the fill of the charges, each of which was admitted.
pub record Follows (b : Bucket) (clock : ℕ) (cs : List Charge) : Type 0 where
  pub by : By clock cs
  pub past : b.last.0 ≤ clock
  pub fill : level b clock ≡ fill b.limit.rate cs clock
  pub admitted : Admitted b.limit.rate b.limit.depth.0 cs

abbrev pub FollowsNone : Type 0
FollowsNone = (l : Limit) → Follows (empty l) 0 []

-- A cost that fits at a later moment is charged.
abbrev pub FollowsCharge : Type 0
FollowsCharge =
    (b : Bucket) (clock : ℕ) (cs : List Charge) (t c : ℕ) →
    Follows b clock cs → clock ≤ t → level b t + c ≤ b.limit.depth.0 → Follows (filled b t c) t (cs ++ (charge_of t c ∷ []))

-- What the bucket does not count leaves it as it is.
abbrev pub FollowsSkip : Type 0
FollowsSkip =
    (b : Bucket) (clock : ℕ) (cs : List Charge) (t : ℕ) →
    Follows b clock cs → clock ≤ t → b.fill.0 ≤ b.limit.depth.0 → Follows b t (cs ++ (charge_of t 0 ∷ []))

-- From the clock on the bucket has the fill of the charges, and every window of them keeps to its rate and depth.
pub record Filled (b : Bucket) (clock : ℕ) (cs : List Charge) : Type 0 where
  pub fill : (t : ℕ) → clock ≤ t → level b t ≡ fill b.limit.rate cs t
  pub windows : WindowsWithin b.limit.rate b.limit.depth.0 cs

abbrev pub FollowsFill : Type 0
FollowsFill = (b : Bucket) (clock : ℕ) (cs : List Charge) → Follows b clock cs → Filled b clock cs
