-- A line of the input as an arrival.
-- longest_line: the most bytes of a line that is read as words
-- colour_named: the colour that a word names
-- colour_in, size_of, moment_of: the words from the third, the second and the first on
-- arrival_of: the arrival that a line gives, or what is wrong with it; place_of: the number of the word at fault
-- Assumes nothing.
use Rattle.std.specs.Prelude.{ℕ, ◌^◌, cond, List, [], ◌∷◌, length, Some, None, Ok, Err, codes, Option, Result, nat_le, nat_lt}
use Rattle.std.specs.Str.{bytes_eq}
use Rattle.meter.specs.declared.measures.Arrival.{Arrival}
use Rattle.meter.specs.declared.measures.Moment.{Moment}
use Rattle.meter.specs.declared.measures.PacketColour.{PacketColour}
use Rattle.meter.specs.declared.measures.PacketColour.TheVariants.{Green, Yellow, Red}
use Rattle.colour.specs.declared.arrivals.LineFault.{LineFault}
use Rattle.colour.specs.Words.{words, numeral}

abbrev pub longest_line : ℕ
longest_line = 120

abbrev pub colour_named : List ℕ → Option PacketColour
colour_named w =
    cond (bytes_eq w (codes "green")) (Some Green)
    (cond (bytes_eq w (codes "yellow")) (Some Yellow) (cond (bytes_eq w (codes "red")) (Some Red) None))

-- no word behind the colour
abbrev pub last : Option PacketColour → List (List ℕ) → Result PacketColour LineFault
last None ws = Err LineFault.Colour
last (Some c) [] = Ok c
last (Some c) (w ∷ ws) = Err LineFault.Extra

-- a packet without a colour is green
abbrev pub colour_in : List (List ℕ) → Result PacketColour LineFault
colour_in [] = Ok Green
colour_in (w ∷ ws) = last (colour_named w) ws

abbrev pub arriving : Moment → ℕ → Result PacketColour LineFault → Result Arrival LineFault
arriving t n (Ok c) = Ok (record { moment = t; size = record { 0 = n }; colour = c })
arriving t n (Err e) = Err e

-- a size that fits 32 bits
abbrev pub sized : Moment → Option ℕ → List (List ℕ) → Result Arrival LineFault
sized t None ws = Err LineFault.Size
sized t (Some n) ws = cond (nat_lt n (2 ^ 32)) (arriving t n (colour_in ws)) (Err LineFault.Size)

abbrev pub size_of : Moment → List (List ℕ) → Result Arrival LineFault
size_of t [] = Err LineFault.Size
size_of t (w ∷ ws) = sized t (numeral w) ws

abbrev pub timed : Option ℕ → List (List ℕ) → Result Arrival LineFault
timed None ws = Err LineFault.Moment
timed (Some t) ws = size_of (record { 0 = t }) ws

abbrev pub moment_of : List (List ℕ) → Result Arrival LineFault
moment_of [] = Err LineFault.Moment
moment_of (w ∷ ws) = timed (numeral w) ws

-- a line that is too long is at fault before its first word
unfoldable pub arrival_of : List ℕ → Result Arrival LineFault
arrival_of l = cond (nat_le (length l) longest_line) (moment_of (words l)) (Err LineFault.TooLong)

-- the word at fault, counted from 1, and 0 where the whole line is
abbrev pub place_of : LineFault → ℕ
place_of LineFault.TooLong = 0
place_of LineFault.Moment = 1
place_of LineFault.Size = 2
place_of LineFault.Colour = 3
place_of LineFault.Extra = 4
