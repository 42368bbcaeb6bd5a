-- Marks: what each class and colour is marked with, and what colour a mark has.
-- colour_place, place: the place of a colour in its class, and of a class and colour in the table
-- code: the code point of a class and colour
-- is_mark: is a code point that of a colour, in any class?
-- colour_of, arrival_of: the colour of a code point, and of a packet as it arrives
-- assured: the code points of assured forwarding
-- Assumes nothing.
use Rattle.std.specs.Prelude.{ℕ, ◌+◌, ◌-◌, ◌*◌, Bool, cond, ◌||◌, ◌==◌, slice_index}
use Rattle.packet.specs.declared.kinds.Class.{Class}
use Rattle.packet.specs.declared.kinds.Class.TheVariants.{One, Two, Three, Four}
use Rattle.meter.specs.declared.measures.PacketColour.{PacketColour}
use Rattle.meter.specs.declared.measures.PacketColour.TheVariants.{Green, Yellow, Red}
use Rattle.packet.specs.declared.kinds.Packet.{Packet}
use Rattle.packet.specs.declared.kinds.Packet.TheVariants.{Ipv4, Other}
use Rattle.packet.specs.declared.marks.Marks.{Marks}
use Rattle.packet.specs.Kinds.{class_number}

abbrev pub colour_place : PacketColour → ℕ
colour_place Green = 0
colour_place Yellow = 1
colour_place Red = 2

-- class by class, each green, yellow, red
abbrev pub place : Class → PacketColour → ℕ
place c k = 3 * (class_number c - 1) + colour_place k

abbrev pub code : Marks → Class → PacketColour → ℕ
code m c k = slice_index m.codes (place c k)

-- in any class
abbrev pub is_mark : Marks → PacketColour → ℕ → Bool
is_mark m k x =
    (code m One k == x) || (code m Two k == x || (code m Three k == x || code m Four k == x))

-- whatever is no mark of the table is green
abbrev pub colour_of : Marks → ℕ → PacketColour
colour_of m x = cond (is_mark m Red x) Red (cond (is_mark m Yellow x) Yellow Green)

-- a station has no mark, and counts as green
abbrev pub arrival_of : Marks → Packet → PacketColour
arrival_of m (Ipv4 h) = colour_of m h.mark
arrival_of m (Other s) = Green

-- 8 for each class, and 2, 4 or 6 for the colour
abbrev pub assured : Class → PacketColour → ℕ
assured c k = 8 * class_number c + 2 * (colour_place k + 1)
