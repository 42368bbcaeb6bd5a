-- A list of arrivals at one meter: what is charged, and what its buckets then have.
-- carried_at: the colour at which an answer carries; charges_of: what a bucket counts of arrivals and their answers
-- Metered: the fills and windows of a meter that some arrivals were charged to
-- Ran: what a run over a list of arrivals answers and leaves
-- Assumes nothing.
use Rattle.std.specs.Prelude.{◌≡◌, ℕ, Bool, true, false, cond, List, [], ◌∷◌, ◌++◌, Some, None, Ok, Err, Option, Result}
use Rattle.meter.specs.declared.measures.Arrival.{Arrival}
use Rattle.meter.specs.declared.measures.Bucket.{Bucket}
use Rattle.meter.specs.declared.measures.Colour.{Colour}
use Rattle.meter.specs.declared.measures.PacketColour.{PacketColour}
use Rattle.meter.specs.declared.measures.PacketColour.TheVariants.{Green, Yellow, Red}
use Rattle.meter.specs.declared.measures.Refusal.{Refusal}
use Rattle.meter.specs.declared.measures.State.{State}
use Rattle.meter.specs.declared.measures.Terms.{Terms}
use Rattle.meter.specs.Rules.{cost, terms_of, unused}
use Rattle.meter.specs.Alone.{answers, left_all}
use Rattle.meter.specs.Windows.{Charge, charge_of}
use Rattle.meter.specs.Laws.{Filled}

abbrev pub Answer : Type 0
Answer = Result PacketColour Refusal

abbrev pub carried_at : Answer → Option Colour
carried_at (Ok Green) = Some Colour.Green
carried_at (Ok Yellow) = Some Colour.Yellow
carried_at (Ok Red) = None
carried_at (Err e) = None

-- `all` counts every packet charged, `green` the green ones
abbrev pub every : Colour → Bool
every k = true

abbrev pub is_green : Colour → Bool
is_green Colour.Green = true
is_green Colour.Yellow = false

-- a carried packet is a charge, of its cost where the bucket counts its colour and of nothing where it does not
abbrev pub charge_for : (Colour → Bool) → Terms → Arrival → Option Colour → List Charge
charge_for counts w a (Some k) = charge_of a.moment.0 (cond (counts k) (cost w a.size.0) 0) ∷ []
charge_for counts w a None = []

abbrev pub charges_of : (Colour → Bool) → Terms → List Arrival → List Answer → List Charge
charges_of counts w [] rs = []
charges_of counts w (a ∷ rest) [] = []
charges_of counts w (a ∷ rest) (r ∷ rs) = charge_for counts w a (carried_at r) ++ charges_of counts w rest rs

abbrev pub FilledGreen : Option Bucket → ℕ → List Charge → Type 0
FilledGreen None clock cs = Unit {0}
FilledGreen (Some g) clock cs = Filled g clock cs

-- From the last charge on each bucket has the fill of what was charged, and every window keeps to its rate and depth.
pub record Metered (m : State) (arrivals : List Arrival) (rs : List Answer) : Type 0 where
  pub all : Filled m.all m.all.last.0 (charges_of every (terms_of m) arrivals rs)
  pub green : FilledGreen m.green m.all.last.0 (charges_of is_green (terms_of m) arrivals rs)

-- Each arrival is answered after the ones before it; from an unused meter on, fills and windows are those of the run.
pub record Ran {S : Type 0} (f : S → State) (before after : S) (arrivals : List Arrival) (rs : List Answer) : Type 0 where
  pub answers : rs ≡ answers (f before) arrivals
  pub left : f after ≡ left_all (f before) arrivals
  pub metered : f before ≡ unused (terms_of (f before)) → Metered (f after) arrivals rs
