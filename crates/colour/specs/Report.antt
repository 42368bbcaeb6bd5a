-- What a meter answers to a whole input: the report.
-- lines_on, lines: the lines of an input, behind a line that has begun, and from its start
-- verdict_of, meter_after, counts_after: a line's verdict, and the meter and the counts that it leaves
-- answer_of: a line's colour with the size of its packet, or why it has none
-- reported: the text for lines, from a meter, a number of lines and counts on; report: for a whole input
-- noted, none: the counts after a packet, and at first
-- Overflows, Noted: a sum that does not fit; what noting a packet answers and leaves
-- text_from: what a session has yet to write, by the input that it has yet to take
-- Judged, Ended, Goes: what judging a line, ending it, and taking some bytes leave
-- Assumes nothing.
use Rattle.std.specs.Prelude.{◌≡◌, ℕ, ◌+◌, ◌^◌, ◌≤◌, cond, ◌⊎◌, List, [], ◌∷◌, ◌++◌, Ok, Err, vec_items, Result, ◌==◌}
use Rattle.std.specs.Result.{result_map_both}
use Rattle.meter.specs.declared.measures.Arrival.{Arrival}
use Rattle.meter.specs.declared.measures.PacketColour.{PacketColour}
use Rattle.meter.specs.declared.measures.PacketColour.TheVariants.{Green, Yellow, Red}
use Rattle.meter.specs.declared.measures.Refusal.{Refusal}
use Rattle.meter.specs.declared.measures.Size.{Size}
use Rattle.meter.specs.declared.measures.State.{State}
use Rattle.meter.specs.Alone.{coloured, left_by}
use Rattle.colour.specs.declared.entries.Count.{Count}
use Rattle.colour.specs.declared.entries.Counts.{Counts}
use Rattle.colour.specs.declared.arrivals.LineFault.{LineFault}
use Rattle.colour.specs.declared.entries.Rejection.{Rejection}
use Rattle.colour.specs.declared.entries.Rejection.TheVariants.{Refused, Malformed}
use Rattle.colour.specs.declared.entries.Stop.{Stop}
use Rattle.colour.specs.declared.entries.Stop.TheVariants.{TooMany}
use Rattle.kinds.specs.Kinds.{any_meaning}
use Rattle.colour.specs.declared.session.Session.{Session}
use Rattle.colour.specs.Arrivals.{arrival_of}
use Rattle.colour.specs.Texts.{Verdict, entry_text, counts_text}

-- a last line without a line feed is a line, unless it is empty
abbrev pub ending : List ℕ → List (List ℕ)
ending [] = []
ending (b ∷ l) = (b ∷ l) ∷ []

abbrev pub lines_on : List ℕ → List ℕ → List (List ℕ)
lines_on l [] = ending l
lines_on l (b ∷ t) = cond (b == 10) (l ∷ lines_on [] t) (lines_on (l ++ (b ∷ [])) t)

abbrev pub lines : List ℕ → List (List ℕ)
lines input = lines_on [] input

abbrev pub more : Count → ℕ → Count
more c bytes = record { packets = c.packets + 1; bytes = c.bytes + bytes }

-- one packet more, of its colour alone
abbrev pub noted : Counts → PacketColour → ℕ → Counts
noted t Green n = record { green = more t.green n; yellow = t.yellow; red = t.red }
noted t Yellow n = record { green = t.green; yellow = more t.yellow n; red = t.red }
noted t Red n = record { green = t.green; yellow = t.yellow; red = more t.red n }

abbrev pub zero : Count
zero = record { packets = 0; bytes = 0 }

abbrev pub none : Counts
none = record { green = zero; yellow = zero; red = zero }

abbrev pub verdict_by : Result PacketColour Refusal → Verdict
verdict_by answer = result_map_both (λ c. c) Refused answer

abbrev pub verdict_of : State → Result Arrival LineFault → Verdict
verdict_of m (Ok a) = verdict_by (coloured m a)
verdict_of m (Err w) = Err (Malformed w)

-- a line's colour with the size of its packet, or why it has none
abbrev pub answer_of : State → Result Arrival LineFault → Result (PacketColour × Size) Rejection
answer_of m (Ok a) = result_map_both (λ c. (c, a.size)) Refused (coloured m a)
answer_of m (Err w) = Err (Malformed w)

-- nothing is charged for a malformed line
abbrev pub meter_after : State → Result Arrival LineFault → State
meter_after m (Ok a) = left_by m a
meter_after m (Err w) = m

abbrev pub counted_by : Counts → ℕ → Result PacketColour Refusal → Counts
counted_by t n (Ok c) = noted t c n
counted_by t n (Err r) = t

-- what is refused counts nowhere
abbrev pub counts_after : Counts → State → Result Arrival LineFault → Counts
counts_after t m (Ok a) = counted_by t a.size.0 (coloured m a)
counts_after t m (Err w) = t

unfoldable pub reported : State → ℕ → Counts → List (List ℕ) → List ℕ
reported m k t [] = counts_text t
reported m k t (l ∷ ls) =
    entry_text (k + 1) (verdict_of m (arrival_of l))
    ++ reported (meter_after m (arrival_of l)) (k + 1) (counts_after t m (arrival_of l)) ls

-- the whole text for a whole input
abbrev pub report : State → List ℕ → List ℕ
report m input = reported m 0 none (lines input)

abbrev pub count_of : Counts → PacketColour → Count
count_of t Green = t.green
count_of t Yellow = t.yellow
count_of t Red = t.red

-- 64 bits do not hold the packets, or the bytes
abbrev pub Overflows : Count → ℕ → Type 0
Overflows c n = (2 ^ 64 ≤ c.packets + 1) ⊎ (2 ^ 64 ≤ c.bytes + n)

abbrev pub Noted : Counts → PacketColour → ℕ → Counts → Result (Unit {0}) Stop → Type 0
Noted t c n after (Ok _) = after ≡ noted t c n
Noted t c n after (Err stop) = (stop ≡ TooMany) × (after ≡ t) × Overflows (count_of t c) n

abbrev pub text_from : Session → List ℕ → List ℕ
text_from s input = reported (any_meaning s.meter) s.lines s.counts (lines_on (vec_items s.held) input)

-- the line that a session holds
abbrev pub held_line : Session → Result Arrival LineFault
held_line s = arrival_of (vec_items s.held)

pub record Judged (s : Session) (v : Verdict) (after : Session) : Type 0 where
  pub verdict : v ≡ verdict_of (any_meaning s.meter) (held_line s)
  pub meter : any_meaning after.meter ≡ meter_after (any_meaning s.meter) (held_line s)
  pub counts : after.counts ≡ counts_after s.counts (any_meaning s.meter) (held_line s)
  pub lines : after.lines ≡ s.lines

-- its answer is written, and the next line begins
pub record Ended (s : Session) (out : List ℕ) (after : Session) (wrote : List ℕ) : Type 0 where
  pub text : wrote ≡ out ++ entry_text (s.lines + 1) (verdict_of (any_meaning s.meter) (held_line s))
  pub meter : any_meaning after.meter ≡ meter_after (any_meaning s.meter) (held_line s)
  pub counts : after.counts ≡ counts_after s.counts (any_meaning s.meter) (held_line s)
  pub lines : after.lines ≡ s.lines + 1
  pub held : vec_items after.held ≡ []

-- Whatever the rest of the input is, what was written and what is yet to be written are the same text as before.
abbrev pub Goes : Session → List ℕ → List ℕ → Session → List ℕ → Type 0
Goes s out bytes after wrote = (rest : List ℕ) → out ++ text_from s (bytes ++ rest) ≡ wrote ++ text_from after rest
