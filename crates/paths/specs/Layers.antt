-- A packet along a path, by the states of the meters.
-- layers_of: a path as the list of its layers' numbers
-- meter_at: the meter of a number, 0 for the flow's own
-- fits_one, fits_at: does a meter take the packet? over_in, over_one, over_at: would it be lifted over its depth?
-- taken_by, lifted_by: the same of the meters as they stand
-- colours, best: the best colour that every meter of a path takes, no better than it arrived with
-- lowest: the lowest layer that does not take it
-- left_by: a meter after a charge; charged_node, charged_nodes: the nodes after a charge to one, and to each of a path
-- Assumes nothing.
use Rattle.std.specs.Prelude.{ℕ, ◌+◌, ◌-◌, Bool, false, cond, ◌&&◌, List, [], ◌∷◌, map, take, Some, None, Ok, Err, Option, Result, ◌==◌, slice_set}
use Rattle.std.specs.List.{slice_get, list_all, find}
use Rattle.meter.specs.declared.measures.Colour.{Colour}
use Rattle.meter.specs.declared.measures.Colour.TheVariants.{Green, Yellow}
use Rattle.meter.specs.declared.measures.Fit.{Fit}
use Rattle.meter.specs.declared.measures.Load.{Load}
use Rattle.meter.specs.declared.measures.PacketColour.{PacketColour}
use Rattle.meter.specs.declared.measures.Refusal.{Refusal}
use Rattle.meter.specs.declared.measures.State.{State}
use Rattle.meter.specs.Rules.{asked, charged, fits_in}
use Rattle.meter.specs.Alone.{allowed}
use Rattle.paths.specs.declared.layers.Meters.{Meters}
use Rattle.paths.specs.declared.layers.Place.{Place}
use Rattle.paths.specs.declared.path.Path.{Path}

abbrev pub layers_of : Path → List ℕ
layers_of p = take p.count p.numbers

abbrev pub meter_at : State → List State → ℕ → Option State
meter_at m ms k = cond (k == 0) (Some m) (slice_get ms (k - 1))

-- a meter that is not there takes nothing
abbrev pub fits_one : Load → Colour → Option State → Bool
fits_one o c None = false
fits_one o c (Some m) = fits_in (asked m o.size.0 o.moment.0 c)

abbrev pub fits_at : Load → State → List State → Colour → ℕ → Bool
fits_at o m ms c k = fits_one o c (meter_at m ms k)

abbrev pub over_in : Result Fit Refusal → Bool
over_in (Ok fit) = fit.over
over_in (Err e) = false

abbrev pub over_one : Load → Option State → Bool
over_one o None = false
over_one o (Some m) = over_in (asked m o.size.0 o.moment.0 Yellow)

abbrev pub over_at : Load → State → List State → ℕ → Bool
over_at o m ms k = over_one o (meter_at m ms k)

abbrev pub taken_by : {S : Type 0} → (S → State) → Meters S → Load → Colour → ℕ → Bool
taken_by meaning ms o = fits_at o (meaning ms.flow.now) (map meaning ms.nodes.now)

abbrev pub lifted_by : {S : Type 0} → (S → State) → Meters S → Load → ℕ → Bool
lifted_by meaning ms o = over_at o (meaning ms.flow.now) (map meaning ms.nodes.now)

-- the better first
abbrev pub colours : List Colour
colours = Green ∷ Yellow ∷ []

abbrev pub best : (Colour → ℕ → Bool) → PacketColour → List ℕ → Option Colour
best fits a ks = find (λ c. allowed a c && list_all (fits c) ks) colours

abbrev pub place : ℕ → ℕ → Place
place i k = record { layer = i; node = k }

-- the first that does not pass, with its layer
abbrev pub lowest : (ℕ → Bool) → ℕ → List ℕ → Option Place
lowest p i [] = None
lowest p i (k ∷ ks) = cond (p k) (lowest p (i + 1) ks) (Some (place i k))

-- what is refused leaves the meter as it was
abbrev pub after_charge : State → Result State Refusal → State
after_charge m (Ok s) = s
after_charge m (Err e) = m

abbrev pub left_by : Load → Colour → State → State
left_by o c m = after_charge m (charged m o.size.0 o.moment.0 c)

abbrev pub put_left : Load → Colour → List State → ℕ → Option State → List State
put_left o c ms i None = ms
put_left o c ms i (Some m) = slice_set ms i (left_by o c m)

-- 0 is no node, and one that is not there is not charged
abbrev pub charged_node : Load → Colour → List State → ℕ → List State
charged_node o c ms k = cond (k == 0) ms (put_left o c ms (k - 1) (slice_get ms (k - 1)))

abbrev pub charged_nodes : Load → Colour → List State → List ℕ → List State
charged_nodes o c ms [] = ms
charged_nodes o c ms (k ∷ ks) = charged_nodes o c (charged_node o c ms k) ks
