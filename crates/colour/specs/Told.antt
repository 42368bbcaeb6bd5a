-- A report by what the meter answers to the arrivals, as a list, apart from the way in which it is worked out.
-- arrivals_in: the arrivals that lines give, the lines at fault left out
-- woven: each line's verdict, its own where it is at fault, else the next of the meter's answers
-- numbered: the text of verdicts, behind a number of lines
-- count_in, totals: the packets and bytes that were given one colour, and each colour
-- given: was a packet answered with a colour?; text_of: the text for lines and answers
-- told: the text for a whole input
-- Assumes nothing.
use Rattle.std.specs.Prelude.{ℕ, ◌+◌, Bool, true, false, cond, List, [], ◌∷◌, ◌++◌, map, Ok, Err, Result}
use Rattle.meter.specs.declared.measures.Arrival.{Arrival}
use Rattle.meter.specs.declared.measures.PacketColour.{PacketColour}
use Rattle.meter.specs.declared.measures.PacketColour.TheVariants.{Green, Yellow, Red}
use Rattle.meter.specs.declared.measures.State.{State}
use Rattle.meter.specs.Alone.{answers}
use Rattle.meter.specs.Runs.{Answer}
use Rattle.colour.specs.declared.entries.Count.{Count}
use Rattle.colour.specs.declared.entries.Counts.{Counts}
use Rattle.colour.specs.declared.arrivals.LineFault.{LineFault}
use Rattle.colour.specs.declared.entries.Rejection.TheVariants.{Malformed}
use Rattle.colour.specs.Arrivals.{arrival_of}
use Rattle.colour.specs.Texts.{Verdict, entry_text, counts_text}
use Rattle.colour.specs.Report.{lines, zero, more, verdict_by}

abbrev pub arrivals_in : List (Result Arrival LineFault) → List Arrival
arrivals_in [] = []
arrivals_in (Ok a ∷ xs) = a ∷ arrivals_in xs
arrivals_in (Err w ∷ xs) = arrivals_in xs

abbrev pub woven : List (Result Arrival LineFault) → List Answer → List Verdict
woven [] rs = []
woven (Err w ∷ xs) rs = Err (Malformed w) ∷ woven xs rs
woven (Ok a ∷ xs) [] = []
woven (Ok a ∷ xs) (r ∷ rs) = verdict_by r ∷ woven xs rs

abbrev pub numbered : ℕ → List Verdict → List ℕ
numbered k [] = []
numbered k (v ∷ vs) = entry_text (k + 1) v ++ numbered (k + 1) vs

abbrev pub same_colour : PacketColour → PacketColour → Bool
same_colour Green Green = true
same_colour Green Yellow = false
same_colour Green Red = false
same_colour Yellow Green = false
same_colour Yellow Yellow = true
same_colour Yellow Red = false
same_colour Red Green = false
same_colour Red Yellow = false
same_colour Red Red = true

-- what is refused has no colour
abbrev pub given : PacketColour → Answer → Bool
given c (Ok d) = same_colour c d
given c (Err e) = false

abbrev pub count_in : PacketColour → List Arrival → List Answer → Count
count_in c [] rs = zero
count_in c (a ∷ rest) [] = zero
count_in c (a ∷ rest) (r ∷ rs) = cond (given c r) (more (count_in c rest rs) a.size.0) (count_in c rest rs)

abbrev pub totals : List Arrival → List Answer → Counts
totals arrivals rs = record { green = count_in Green arrivals rs; yellow = count_in Yellow arrivals rs; red = count_in Red arrivals rs }

-- from a number of lines on, what lines give and what the meter answers to their arrivals
abbrev pub text_of : ℕ → List (Result Arrival LineFault) → List Answer → List ℕ
text_of k xs rs = numbered k (woven xs rs) ++ counts_text (totals (arrivals_in xs) rs)

abbrev pub told : State → List ℕ → List ℕ
told m input = let xs = map arrival_of (lines input) in text_of 0 xs (answers m (arrivals_in xs))
