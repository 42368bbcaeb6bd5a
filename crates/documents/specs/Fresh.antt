-- What a fresh meter answers to a list of packets.
-- seen_by, seen: a packet, and the packets, as a meter of that mode takes them
-- Coloured: the answers are the meter's, and those of its document; Uncoloured: why there are none
-- Assumes nothing.
use Rattle.std.specs.Prelude.{◌≡◌, true, List, map, is_ok, Ok, Err}
use Rattle.meter.specs.declared.measures.Arrival.{Arrival}
use Rattle.meter.specs.declared.measures.Terms.{Terms}
use Rattle.meter.specs.Rules.{unused}
use Rattle.meter.specs.Alone.{answers, seen_as}
use Rattle.meter.specs.Runs.{Answer}
use Rattle.meter.specs.declared.measures.Mode.{Mode}
use Rattle.kinds.specs.declared.profiles.Profile.{Profile}
use Rattle.documents.specs.declared.colouring.Unrun.{Unrun}
use Rattle.documents.specs.declared.colouring.Unrun.TheVariants.{Unmade, NoMemory}
use Rattle.documents.specs.Documents.{documented, Rising}
use Rattle.kinds.specs.Making.{bought}

abbrev pub seen_by : Mode → Arrival → Arrival
seen_by mode a = record { moment = a.moment; size = a.size; colour = seen_as mode a.colour }

abbrev pub seen : Mode → List Arrival → List Arrival
seen mode arrivals = map (seen_by mode) arrivals

-- What was bought makes a meter, whose answers from its first packet on these are; where the moments never fall, its
-- document gives the same.
pub record Coloured (mode : Mode) (p : Profile) (arrivals : List Arrival) (rs : List Answer) : Type 0 where
  pub answers : (w : Terms) × (bought p ≡ Ok w) × (rs ≡ answers (unused w) (seen mode arrivals))
  pub documented : Rising 0 arrivals → rs ≡ documented mode p arrivals

-- What was bought makes no meter; or it does, and memory was wanting.
abbrev pub Uncoloured : Profile → Unrun → Type 0
Uncoloured p (Unmade fault) = bought p ≡ Err fault
Uncoloured p NoMemory = is_ok (bought p) ≡ true
