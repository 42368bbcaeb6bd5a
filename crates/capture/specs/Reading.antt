-- Reading a capture, as its bytes come in.
-- PlacedEntry: a record and its place; fault_at: a refusal and a place
-- Coming: what comes next; shown_next: an answer of the program as one
-- next_of: what comes next, by the header so far, whether the input is closed, the place and the bytes that are unread
-- takes, header_after, records_in: how many bytes that takes, the header that is then known, the record that is handed out
-- written: records, written one after another; Follow: each stands where the one before it ends
-- HandedOut: the header and the records handed out are, written one after another, the input up to what is unread
-- GoesOn: what comes next goes on from what was handed out
-- Ending: how a capture ends, after its last record or at a fault; ending_of: what then comes next
-- Reads: the header, the records and the ending of a whole capture
-- Settles: at the end or at a fault, what was handed out is all that the capture has
-- Assumes nothing.
use Rattle.std.specs.Prelude.{◌≡◌, ℕ, ◌+◌, ◌<◌, Bool, true, false, cond, List, [], ◌∷◌, ◌++◌, length, drop, Some, None, Ok, Err, Option, Result, ◌==◌, nat_lt}
use Rattle.capture.specs.declared.layout.Order.{Order}
use Rattle.capture.specs.declared.layout.Refusal.{Refusal}
use Rattle.capture.specs.declared.layout.Refusal.TheVariants.{ShortFile, Incomplete}
use Rattle.capture.specs.declared.layout.FileHeader.{FileHeader}
use Rattle.capture.specs.declared.layout.Fault.{Fault}
use Rattle.capture.specs.declared.layout.Next.{Next}
use Rattle.capture.specs.declared.layout.Next.TheVariants.{Header, Handed, Wanting, Ended, Stopped}
use Rattle.capture.specs.Records.{head_size, Entry, entry_of, Good, record_bytes, AtHand, whole, lacking, faulty, at_hand}
use Rattle.capture.specs.Headers.{file_head_size, header_bytes, Fit, header_of}

pub record PlacedEntry : Type 0 where
  pub place : ℕ
  pub entry : Entry

abbrev pub placed_at : ℕ → Entry → PlacedEntry
placed_at p e = record { place = p; entry = e }

abbrev pub fault_at : Refusal → ℕ → Fault
fault_at f p = record { refusal = f; place = p }

pub data Coming : Type 0 where
  header : FileHeader → Coming
  handed : PlacedEntry → Coming
  wanting : ℕ → Coming
  ended : Coming
  stopped : Fault → Coming

abbrev pub shown_next : Next → Coming
shown_next (Header h) = header h
shown_next (Handed r) = handed (placed_at r.place (entry_of r.record))
shown_next (Wanting n) = wanting n
shown_next Ended = ended
shown_next (Stopped f) = stopped f

-- more bytes are wanted, unless the input is closed
abbrev pub when_closed : Bool → ℕ → Coming → Coming
when_closed true n x = x
when_closed false n x = wanting n

-- the header's faults have place 0
abbrev pub opening : Result FileHeader Refusal → Coming
opening (Ok h) = header h
opening (Err f) = stopped (fault_at f 0)

-- with no byte left the capture has ended; with some, but no whole record, the record is incomplete
abbrev pub following : Bool → ℕ → List ℕ → AtHand → Coming
following closed p bs (whole e) = handed (placed_at p e)
following closed p bs (lacking n) = when_closed closed n (cond (length bs == 0) ended (stopped (fault_at Incomplete p)))
following closed p bs (faulty f) = stopped (fault_at f p)

abbrev pub next_of : Option FileHeader → Bool → ℕ → List ℕ → Coming
next_of None closed p bs =
    cond (nat_lt (length bs) file_head_size) (when_closed closed file_head_size (stopped (fault_at ShortFile 0))) (opening (header_of bs))
next_of (Some h) closed p bs = following closed p bs (at_hand h.order bs)

abbrev pub takes : Coming → ℕ
takes (header h) = file_head_size
takes (handed r) = head_size + length r.entry.frame
takes (wanting n) = 0
takes ended = 0
takes (stopped f) = 0

abbrev pub header_after : Option FileHeader → Coming → Option FileHeader
header_after known (header h) = Some h
header_after known (handed r) = known
header_after known (wanting n) = known
header_after known ended = known
header_after known (stopped f) = known

abbrev pub records_in : Coming → List PlacedEntry
records_in (header h) = []
records_in (handed r) = r ∷ []
records_in (wanting n) = []
records_in ended = []
records_in (stopped f) = []

abbrev pub written : Order → List PlacedEntry → List ℕ
written o [] = []
written o (r ∷ rs) = record_bytes o r.entry ++ written o rs

-- from the place p on, each record stands where the one before it ends, and the last ends at q
abbrev pub Follow : ℕ → List PlacedEntry → ℕ → Type 0
Follow p [] q = q ≡ p
Follow p (r ∷ rs) q = (r.place ≡ p) × Follow (p + (head_size + length r.entry.frame)) rs q

abbrev pub AllGood : List PlacedEntry → Type 0
AllGood [] = Unit {0}
AllGood (r ∷ rs) = Good r.entry × AllGood rs

-- The header and the records, written one after another, are the input up to what is unread, which begins at the place.
pub record Spells (h : FileHeader) (rs : List PlacedEntry) (place : ℕ) (unread input : List ℕ) : Type 0 where
  pub fit : Fit h
  pub good : AllGood rs
  pub follow : Follow file_head_size rs place
  pub spelled : input ≡ header_bytes h ++ (written h.order rs ++ unread)

-- Before the header nothing is handed out, and nothing of the input is passed.
abbrev pub HandedOut : Option FileHeader → List PlacedEntry → ℕ → List ℕ → List ℕ → Type 0
HandedOut None rs place unread input = (rs ≡ []) × (place ≡ 0) × (unread ≡ input)
HandedOut (Some h) rs place unread input = Spells h rs place unread input

abbrev pub GoesOn : Option FileHeader → ℕ → List ℕ → Coming → Type 0
GoesOn h place unread x =
    (input : List ℕ) (rs : List PlacedEntry) → HandedOut h rs place unread input →
    HandedOut (header_after h x) (rs ++ records_in x) (place + takes x) (drop (takes x) unread) input

abbrev pub Ending : Type 0
Ending = Result (Unit {0}) Fault

abbrev pub ending_of : Ending → Coming
ending_of (Ok u) = ended
ending_of (Err f) = stopped f

-- A whole capture: what is handed out, written one after another, is the capture up to a rest, and at that rest
-- the capture has ended or is at fault.
pub record Reads (input : List ℕ) (h : Option FileHeader) (rs : List PlacedEntry) (e : Ending) : Type 0 where
  pub place : ℕ
  pub rest : List ℕ
  pub handed_out : HandedOut h rs place rest input
  pub ends : next_of h true place rest ≡ ending_of e

-- Once the input is closed it is the whole capture. A fault before that is the whole capture's, whatever follows.
abbrev pub Settles : Option FileHeader → Bool → ℕ → List ℕ → Coming → Type 0
Settles h closed place unread (header k) = Unit {0}
Settles h closed place unread (handed r) = Unit {0}
Settles h closed place unread (wanting n) = (length unread < n) × (closed ≡ false)
Settles h closed place unread ended =
    (input : List ℕ) (rs : List PlacedEntry) → HandedOut h rs place unread input → (closed ≡ true) × Reads input h rs (Ok tt)
Settles h true place unread (stopped f) =
    (input : List ℕ) (rs : List PlacedEntry) → HandedOut h rs place unread input → Reads input h rs (Err f)
Settles h false place unread (stopped f) =
    (input more : List ℕ) (rs : List PlacedEntry) → HandedOut h rs place unread input → Reads (input ++ more) h rs (Err f)
