-- The rules of a meter: fills, costs, fits, charges.
-- largest_size, largest_moment: what a meter may be asked about
-- level: a bucket's fill at a moment
-- cost: what a packet of some bytes costs; in_grains: a cost as an amount, where it is one
-- fits_by: does a cost fit, by the terms and the two fills?
-- fitting: the same, by the meter as it stands
-- unless: an answer, unless the size, the moment or the past is refused
-- fits_in: whether an answer says that the colour fits
-- asked, charged: what asking answers, and what charging answers or leaves
-- terms_of: the terms of a meter; SameTerms: they are the same after as before
-- Sound: what holds of every meter; unused: the meter nothing was charged to
-- Charged: what a charge answers and leaves
-- number_of: the number of each refusal
-- Assumes nothing.
use Rattle.std.specs.Prelude.{◌≡◌, ℕ, ◌+◌, ◌-◌, ◌*◌, ◌≤◌, Bool, true, false, cond, not, ◌&&◌, Some, None, Ok, Err, Option, Result, nat_le, nat_lt}
use Rattle.meter.specs.declared.measures.Grains.{Grains}
use Rattle.meter.specs.declared.measures.Colour.{Colour}
use Rattle.meter.specs.declared.measures.Colour.TheVariants.{Green, Yellow}
use Rattle.meter.specs.declared.measures.Refusal.{Refusal}
use Rattle.meter.specs.declared.measures.Refusal.TheVariants.{BadSize, BadMoment, Backward, Unfit}
use Rattle.meter.specs.declared.measures.Fit.{Fit}
use Rattle.meter.specs.declared.measures.Limit.{Limit}
use Rattle.meter.specs.declared.measures.Terms.{Terms}
use Rattle.meter.specs.declared.measures.Bucket.{Bucket}
use Rattle.meter.specs.declared.measures.State.{State}

abbrev pub largest_size : ℕ
largest_size = 65535

abbrev pub largest_moment : ℕ
largest_moment = 4294967295999999

abbrev pub number_of : Refusal → ℕ
number_of BadSize = 10
number_of BadMoment = 11
number_of Backward = 12
number_of Unfit = 13

abbrev pub grains : ℕ → Grains
grains n = record { 0 = n }

-- the fill after the last charge, less the rate times the gap since, never below zero
abbrev pub level : Bucket → ℕ → ℕ
level b t = b.fill.0 - b.limit.rate * (t - b.last.0)

-- where there is no green bucket, nothing is green
abbrev pub green_level : Option Bucket → ℕ → ℕ
green_level None t = 0
green_level (Some g) t = level g t

abbrev pub cost : Terms → ℕ → ℕ
cost w n = w.base.0 + w.per_byte.0 * n

-- None where it is more than any bucket can hold
abbrev pub in_grains : ℕ → Option Grains
in_grains c = cond (nat_le c 18446744073709551615) (Some (grains c)) None

-- where there is no green bucket, it has room
abbrev pub green_room : Option Limit → ℕ → ℕ → Bool
green_room None fill c = true
green_room (Some l) fill c = nat_le (fill + c) l.depth.0

abbrev pub excess_room : Option Grains → ℕ → Bool
excess_room None beyond = true
excess_room (Some e) beyond = nat_le beyond e.0

-- green wants room in `all` and in `green`; yellow wants room in `all` and, with an excess depth, for what is not green
abbrev pub fits_by : Terms → ℕ → ℕ → ℕ → Colour → Bool
fits_by w all green c Green = nat_le (all + c) w.all.depth.0 && green_room w.green green c
fits_by w all green c Yellow = nat_le (all + c) w.all.depth.0 && excess_room w.excess ((all - green) + c)

abbrev pub limit_of : Option Bucket → Option Limit
limit_of None = None
limit_of (Some g) = Some g.limit

abbrev pub terms_of : State → Terms
terms_of m =
    record { base = m.base; per_byte = m.per_byte; all = m.all.limit; green = limit_of m.green; excess = m.excess }

-- the terms are the same after as before
abbrev pub SameTerms : {S : Type 0} → (S → State) → S → S → Type 0
SameTerms f before after = terms_of (f after) ≡ terms_of (f before)

abbrev pub fitting : State → ℕ → ℕ → Colour → Bool
fitting m n t k = fits_by (terms_of m) (level m.all t) (green_level m.green t) (cost (terms_of m) n) k

-- would the cost lift `all` over its depth?
abbrev pub overfull : State → ℕ → ℕ → Bool
overfull m n t = not (nat_le (level m.all t + cost (terms_of m) n) m.all.limit.depth.0)

-- the answer x, unless the size is 0 or too large, the moment is too large, or lies before the last charge
abbrev pub unless : {X : Type 0} → State → ℕ → ℕ → Result X Refusal → Result X Refusal
unless m n t x =
    cond (nat_lt 0 n && nat_le n largest_size)
    (cond (nat_le t largest_moment) (cond (nat_le m.all.last.0 t) x (Err Backward)) (Err BadMoment))
    (Err BadSize)

abbrev pub asked : State → ℕ → ℕ → Colour → Result Fit Refusal
asked m n t k = unless m n t (Ok (record { fits = fitting m n t k; over = overfull m n t }))

-- what is refused does not fit
abbrev pub fits_in : Result Fit Refusal → Bool
fits_in (Ok fit) = fit.fits
fits_in (Err e) = false

abbrev pub filled : Bucket → ℕ → ℕ → Bucket
filled b t c = record { limit = b.limit; fill = grains (level b t + c); last = record { 0 = t } }

-- the green bucket counts green packets only
abbrev pub green_filled : Option Bucket → ℕ → ℕ → Colour → Option Bucket
green_filled None t c k = None
green_filled (Some g) t c Green = Some (filled g t c)
green_filled (Some g) t c Yellow = Some g

-- each bucket that counts the colour gets its fill at that moment plus the cost, and that moment
abbrev pub counted : State → ℕ → ℕ → Colour → State
counted m t c k =
    record { base = m.base; per_byte = m.per_byte; all = filled m.all t c; green = green_filled m.green t c k; excess = m.excess }

abbrev pub charged : State → ℕ → ℕ → Colour → Result State Refusal
charged m n t k = unless m n t (cond (fitting m n t k) (Ok (counted m t (cost (terms_of m) n) k)) (Err Unfit))

-- no bucket above its depth, and each leaks
pub record SoundBucket (b : Bucket) : Type 0 where
  pub leaks : 1 ≤ b.limit.rate
  pub within : b.fill.0 ≤ b.limit.depth.0

abbrev pub SoundGreen : Option Bucket → Type 0
SoundGreen None = Unit {0}
SoundGreen (Some g) = SoundBucket g

-- an excess depth goes with a green bucket that leaks as fast as `all`
abbrev pub Paired : Option Grains → Option Limit → ℕ → Type 0
Paired None g rate = Unit {0}
Paired (Some e) None rate = ⊥
Paired (Some e) (Some g) rate = g.rate ≡ rate

pub record Sound (m : State) : Type 0 where
  pub all : SoundBucket m.all
  pub green : SoundGreen m.green
  pub paired : Paired m.excess (limit_of m.green) m.all.limit.rate

abbrev pub empty : Limit → Bucket
empty l = record { limit = l; fill = grains 0; last = record { 0 = 0 } }

abbrev pub empty_green : Option Limit → Option Bucket
empty_green None = None
empty_green (Some l) = Some (empty l)

abbrev pub unused : Terms → State
unused w =
    record { base = w.base; per_byte = w.per_byte; all = empty w.all; green = empty_green w.green; excess = w.excess }

-- the meaning after, or a refusal and the very same meter
abbrev pub Charged : {S : Type 0} → (S → State) → S → S → ℕ → ℕ → Colour → Result (Unit {0}) Refusal → Type 0
Charged f before after n t k (Ok u) = charged (f before) n t k ≡ Ok (f after)
Charged f before after n t k (Err e) = (charged (f before) n t k ≡ Err e) × (after ≡ before)
