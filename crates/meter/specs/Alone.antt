-- A meter alone: the colour of a packet, and of each packet of a list.
-- seen_as: the colour by which a packet is judged, in each mode
-- allowed: may a packet that arrives with one colour be carried at another?
-- Best: the best colour that fits and is allowed; best_of: the colour itself
-- colour_of: the colour of a packet that is carried so, or not at all
-- coloured: the answer for an arrival; left_by: the meter after it; Untouched: the very same meter, where nothing is charged
-- answers, left_all: the same for a list of arrivals, each after the ones before it
-- Assumes nothing.
use Rattle.std.specs.Prelude.{◌≡◌, Bool, true, false, cond, List, [], ◌∷◌, Some, None, Ok, Err, Option, Result}
use Rattle.meter.specs.declared.measures.Arrival.{Arrival}
use Rattle.meter.specs.declared.measures.Colour.{Colour}
use Rattle.meter.specs.declared.measures.Mode.{Mode}
use Rattle.meter.specs.declared.measures.Mode.TheVariants.{Blind, Aware}
use Rattle.meter.specs.declared.measures.PacketColour.{PacketColour}
use Rattle.meter.specs.declared.measures.PacketColour.TheVariants.{Green, Yellow, Red}
use Rattle.meter.specs.declared.measures.Refusal.{Refusal}
use Rattle.meter.specs.declared.measures.State.{State}
use Rattle.meter.specs.Rules.{unless, fitting, counted, cost, terms_of}

-- a blind meter takes every packet as green
abbrev pub seen_as : Mode → PacketColour → PacketColour
seen_as Blind a = Green
seen_as Aware a = a

-- no better than it arrived
abbrev pub allowed : PacketColour → Colour → Bool
allowed Green k = true
allowed Yellow Colour.Green = false
allowed Yellow Colour.Yellow = true
allowed Red k = false

abbrev pub better : Colour → Colour → Bool
better Colour.Green Colour.Green = false
better Colour.Green Colour.Yellow = true
better Colour.Yellow k = false

-- the colour fits and is allowed, and no better one is; or none is
abbrev pub Best : (Colour → Bool) → PacketColour → Option Colour → Type 0
Best fits a (Some k) =
    (fits k ≡ true) × (allowed a k ≡ true) × ((j : Colour) → better j k ≡ true → allowed a j ≡ true → fits j ≡ false)
Best fits a None = (k : Colour) → allowed a k ≡ true → fits k ≡ false

abbrev pub best_of : (Colour → Bool) → PacketColour → Option Colour
best_of fits Green = cond (fits Colour.Green) (Some Colour.Green) (cond (fits Colour.Yellow) (Some Colour.Yellow) None)
best_of fits Yellow = cond (fits Colour.Yellow) (Some Colour.Yellow) None
best_of fits Red = None

abbrev pub by_colour : Bool → Bool → Colour → Bool
by_colour green yellow Colour.Green = green
by_colour green yellow Colour.Yellow = yellow

-- what no colour fits is red
abbrev pub colour_of : Option Colour → PacketColour
colour_of (Some Colour.Green) = Green
colour_of (Some Colour.Yellow) = Yellow
colour_of None = Red

abbrev pub best_for : State → Arrival → Option Colour
best_for m a = best_of (fitting m a.size.0 a.moment.0) a.colour

-- refused for its size or moment, or coloured
abbrev pub coloured : State → Arrival → Result PacketColour Refusal
coloured m a = unless m a.size.0 a.moment.0 (Ok (colour_of (best_for m a)))

-- green and yellow are charged; red and refused leave the meter alone
abbrev pub charged_as : State → Arrival → Result PacketColour Refusal → State
charged_as m a (Ok Green) = counted m a.moment.0 (cost (terms_of m) a.size.0) Colour.Green
charged_as m a (Ok Yellow) = counted m a.moment.0 (cost (terms_of m) a.size.0) Colour.Yellow
charged_as m a (Ok Red) = m
charged_as m a (Err e) = m

abbrev pub left_by : State → Arrival → State
left_by m a = charged_as m a (coloured m a)

-- the very same meter, where nothing is charged
abbrev pub Untouched : {S : Type 0} → Result PacketColour Refusal → S → S → Type 0
Untouched (Ok Green) before after = Unit {0}
Untouched (Ok Yellow) before after = Unit {0}
Untouched (Ok Red) before after = after ≡ before
Untouched (Err e) before after = after ≡ before

abbrev pub answers : State → List Arrival → List (Result PacketColour Refusal)
answers m [] = []
answers m (a ∷ rest) = coloured m a ∷ answers (left_by m a) rest

abbrev pub left_all : State → List Arrival → State
left_all m [] = m
left_all m (a ∷ rest) = left_all (left_by m a) rest
