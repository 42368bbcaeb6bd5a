-- Worked cases, one list for every layer.
-- Taken: whether a packet was charged, or the number of its refusal
-- charges: packets of one size, each charged as green at its moment to a fresh meter
-- colours: packets at one moment, each coloured by a fresh meter
-- BenchCases: the list
-- Assumes nothing.
use Rattle.std.specs.Prelude.{◌≡◌, ℕ, List, [], ◌∷◌, Ok, Err, Result}
use Rattle.meter.specs.declared.measures.Arrival.{Arrival}
use Rattle.meter.specs.declared.measures.Colour.{Colour}
use Rattle.meter.specs.declared.measures.PacketColour.TheVariants.{Green, Yellow, Red}
use Rattle.meter.specs.declared.measures.Refusal.{Refusal}
use Rattle.meter.specs.declared.measures.State.{State}
use Rattle.meter.specs.Alone.{answers}
use Rattle.meter.specs.Rules.{charged, number_of}
use Rattle.meter.specs.Runs.{Answer}
use Rattle.kinds.specs.declared.profiles.Fault.{Fault}
use Rattle.kinds.specs.declared.profiles.Profile.{Profile}
use Rattle.kinds.specs.declared.profiles.Profile.TheVariants.{Vs, Lb, Tb, Tr}
use Rattle.kinds.specs.Making.{made}

pub data Taken : Type 0 where
  taken : Taken
  refused : ℕ → Taken

abbrev pub outcome : Result State Refusal → Taken
outcome (Ok m) = taken
outcome (Err e) = refused (number_of e)

abbrev pub left : State → Result State Refusal → State
left m (Ok next) = next
left m (Err e) = m

abbrev pub charging : State → ℕ → List ℕ → List Taken
charging m n [] = []
charging m n (t ∷ ts) = outcome (charged m n t Colour.Green) ∷ charging (left m (charged m n t Colour.Green)) n ts

abbrev pub charges_from : Result State Fault → ℕ → List ℕ → List Taken
charges_from (Ok m) n ts = charging m n ts
charges_from (Err e) n ts = []

abbrev pub charges : Profile → ℕ → List ℕ → List Taken
charges p n ts = charges_from (made p) n ts

abbrev pub arrivals_at : ℕ → List ℕ → List Arrival
arrivals_at t [] = []
arrivals_at t (n ∷ ns) = record { moment = record { 0 = t }; size = record { 0 = n }; colour = Green } ∷ arrivals_at t ns

abbrev pub colours_from : Result State Fault → ℕ → List ℕ → List Answer
colours_from (Ok m) t ns = answers m (arrivals_at t ns)
colours_from (Err e) t ns = []

abbrev pub colours : Profile → ℕ → List ℕ → List Answer
colours p t ns = colours_from (made p) t ns

pub record BenchCases : Type 0 where
  pub virtual_scheduling : charges (Vs 10 5) 1 (0 ∷ 0 ∷ 4 ∷ 5 ∷ []) ≡ taken ∷ refused 13 ∷ refused 13 ∷ taken ∷ []
  pub leaky_bucket : charges (Lb 10 5) 1 (0 ∷ 0 ∷ 4 ∷ 5 ∷ []) ≡ taken ∷ refused 13 ∷ refused 13 ∷ taken ∷ []
  pub token_bucket : charges (Tb 1 1) 1 (0 ∷ 999999 ∷ 1000000 ∷ []) ≡ taken ∷ refused 13 ∷ taken ∷ []
  pub two_rates : colours (Tr 1000 500 2000 800) 0 (500 ∷ 300 ∷ 1 ∷ []) ≡ Ok Green ∷ Ok Yellow ∷ Ok Red ∷ []
