-- The numbers of refusals, and the answer along a path.
-- Answer: a colour at which a record is carried, or why it is not
-- number_of: the number of each refusal
-- is_carried, carried_green, is_green: what an answer comes to; went_back: a moment before the clock
-- blame: 37 or 38, at the lowest layer that does not take the packet yellow
-- judged: the best colour that every meter of a path takes, or whom to blame
-- Assumes nothing.
use Rattle.std.specs.Prelude.{ℕ, Bool, true, false, cond, List, Some, None, Option, Result, Ok, Err, is_ok}
use Rattle.meter.specs.declared.measures.Colour.{Colour}
use Rattle.meter.specs.declared.measures.PacketColour.{PacketColour}
use Rattle.meter.specs.declared.measures.PacketColour.TheVariants.{Green, Yellow, Red}
use Rattle.paths.specs.declared.layers.Place.{Place}
use Rattle.paths.specs.Layers.{best, lowest}
use Rattle.history.specs.declared.answers.Refusal.{Refusal}
use Rattle.history.specs.declared.answers.Refusal.TheVariants.{BadFraction, BadLength, TooMany, Backward, ShortFrame, BadHeader, NoRule, TableFull, MarkedRed, OverDepth, OverExcess}

abbrev pub Answer : Type 0
Answer = Result Colour Refusal

abbrev pub number_of : Refusal → ℕ
number_of BadFraction = 25
number_of BadLength = 26
number_of TooMany = 30
number_of Backward = 31
number_of ShortFrame = 32
number_of BadHeader = 33
number_of NoRule = 34
number_of TableFull = 35
number_of MarkedRed = 36
number_of (OverDepth q) = 37
number_of (OverExcess q) = 38

abbrev pub is_carried : Answer → Bool
is_carried a = is_ok a

abbrev pub is_green : Colour → Bool
is_green Colour.Green = true
is_green Colour.Yellow = false

abbrev pub carried_green : Answer → Bool
carried_green (Ok c) = is_green c
carried_green (Err e) = false

abbrev pub is_backward : Refusal → Bool
is_backward BadFraction = false
is_backward BadLength = false
is_backward TooMany = false
is_backward Backward = true
is_backward ShortFrame = false
is_backward BadHeader = false
is_backward NoRule = false
is_backward TableFull = false
is_backward MarkedRed = false
is_backward (OverDepth q) = false
is_backward (OverExcess q) = false

abbrev pub went_back : Answer → Bool
went_back (Ok c) = false
went_back (Err e) = is_backward e

-- where yellow fits every meter, none was allowed
abbrev pub blame : (ℕ → Bool) → Option Place → Answer
blame over (Some q) = Err (cond (over q.node) (OverDepth q) (OverExcess q))
blame over None = Err MarkedRed

abbrev pub or_else : Option Colour → Answer → Answer
or_else (Some c) other = Ok c
or_else None other = other

abbrev pub judged : (Colour → ℕ → Bool) → (ℕ → Bool) → PacketColour → List ℕ → Answer
judged fits over Green ks = or_else (best fits Green ks) (blame over (lowest (fits Colour.Yellow) 0 ks))
judged fits over Yellow ks = or_else (best fits Yellow ks) (blame over (lowest (fits Colour.Yellow) 0 ks))
judged fits over Red ks = Err MarkedRed
