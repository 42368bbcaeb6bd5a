-- A record of a capture: what is allowed, how it is written, and what the bytes at hand give.
-- most_fraction, most_original, most_captured, head_size: the bounds on a record's numbers, and the size of its header
-- per_second, moment_of: the moment of a record
-- check_of: what is refused of a record by its numbers
-- Entry: a record with its frame; entry_of: a record of the program as one; Good: it is allowed
-- head_of, record_bytes: a record's header, and the whole record, as they are written
-- AtHand: what some bytes give; entry_at: the record that they begin with; check_at: what is refused of it by its numbers
-- at_hand: what they give
-- shown: an answer of the program as one
-- ReadsAs: bytes read as a record, whatever follows
-- Stays: what bytes give is what they still give with more behind them
-- head_written: the header that is written, or the refusal; NotWritten: why a record is not written
-- Fronts: the record that bytes give is allowed and, written, is their front
-- Assumes nothing.
use Rattle.std.specs.Prelude.{◌≡◌, ℕ, ◌+◌, ◌*◌, ◌^◌, ◌<◌, Bool, cond, ◌&&◌, List, ◌++◌, length, take, drop, Ok, Err, Result, nat_le, nat_lt}
use Rattle.capture.specs.declared.layout.Order.{Order}
use Rattle.capture.specs.declared.layout.Refusal.{Refusal}
use Rattle.capture.specs.declared.layout.Refusal.TheVariants.{BadFraction, BadLength}
use Rattle.capture.specs.declared.layout.WriteError.{WriteError}
use Rattle.capture.specs.declared.layout.WriteError.TheVariants.{Refused, NoMemory}
use Rattle.capture.specs.declared.layout.Record.{Record}
use Rattle.capture.specs.declared.layout.NoRecord.{NoRecord}
use Rattle.capture.specs.Numbers.{word_bytes, word_at}

abbrev pub most_fraction : ℕ
most_fraction = 999999

abbrev pub most_original : ℕ
most_original = 65535

abbrev pub most_captured : ℕ
most_captured = 16384

abbrev pub head_size : ℕ
head_size = 16

abbrev pub per_second : ℕ
per_second = 1000000

-- microseconds since the epoch
abbrev pub moment_of : ℕ → ℕ → ℕ
moment_of seconds microseconds = seconds * per_second + microseconds

-- the original length is 1 to the most, and the captured one above neither it nor the most
abbrev pub lengths_allowed : ℕ → ℕ → Bool
lengths_allowed captured original =
    (nat_lt 0 original && nat_le original most_original) && (nat_le captured original && nat_le captured most_captured)

abbrev pub check_of : ℕ → ℕ → ℕ → Result (Unit {0}) Refusal
check_of microseconds captured original =
    cond (nat_le microseconds most_fraction) (cond (lengths_allowed captured original) (Ok tt) (Err BadLength)) (Err BadFraction)

pub record Entry : Type 0 where
  pub seconds : ℕ
  pub microseconds : ℕ
  pub original : ℕ
  pub frame : List ℕ

abbrev pub entry_of : Record → Entry
entry_of r =
    record { seconds = r.seconds; microseconds = r.microseconds; original = r.original; frame = r.frame.now }

pub record Good (e : Entry) : Type 0 where
  pub seconds : e.seconds < 2 ^ 32
  pub numbers : check_of e.microseconds (length e.frame) e.original ≡ Ok tt

abbrev pub head_of : Order → Entry → List ℕ
head_of o e =
    word_bytes o e.seconds ++ (word_bytes o e.microseconds ++ (word_bytes o (length e.frame) ++ word_bytes o e.original))

abbrev pub record_bytes : Order → Entry → List ℕ
record_bytes o e = head_of o e ++ e.frame

abbrev pub head_if : Result (Unit {0}) Refusal → Order → Entry → Result (List ℕ) Refusal
head_if (Ok u) o e = Ok (head_of o e)
head_if (Err f) o e = Err f

abbrev pub head_written : Order → Entry → Result (List ℕ) Refusal
head_written o e = head_if (check_of e.microseconds (length e.frame) e.original) o e

-- what is refused could not be read again
abbrev pub NotWritten : Entry → WriteError → Type 0
NotWritten e (Refused f) = check_of e.microseconds (length e.frame) e.original ≡ Err f
NotWritten e NoMemory = Good e

-- a whole record, a number of bytes that are wanted first, or a refusal
pub data AtHand : Type 0 where
  whole : Entry → AtHand
  lacking : ℕ → AtHand
  faulty : Refusal → AtHand

abbrev pub entry_at : Order → List ℕ → Entry
entry_at o bs =
    record {
      seconds = word_at o bs 0;
      microseconds = word_at o bs 4;
      original = word_at o bs 12;
      frame = take (word_at o bs 8) (drop head_size bs);
    }

abbrev pub check_at : Order → List ℕ → Result (Unit {0}) Refusal
check_at o bs = check_of (word_at o bs 4) (word_at o bs 8) (word_at o bs 12)

-- once the numbers pass, the frame is wanted whole
abbrev pub framed : Result (Unit {0}) Refusal → Order → List ℕ → AtHand
framed (Ok u) o bs = cond (nat_lt (length bs) (head_size + word_at o bs 8)) (lacking (head_size + word_at o bs 8)) (whole (entry_at o bs))
framed (Err f) o bs = faulty f

-- the header is wanted whole, then its numbers are judged
abbrev pub at_hand : Order → List ℕ → AtHand
at_hand o bs =
    cond (nat_lt (length bs) head_size) (lacking head_size)
    (framed (check_at o bs) o bs)

abbrev pub shown : Result Record NoRecord → AtHand
shown (Ok r) = whole (entry_of r)
shown (Err (NoRecord.Wanting n)) = lacking n
shown (Err (NoRecord.Refused f)) = faulty f

abbrev pub Fronts : Order → List ℕ → AtHand → Type 0
Fronts o bs (whole e) = Good e × (bs ≡ record_bytes o e ++ drop (head_size + length e.frame) bs)
Fronts o bs (lacking n) = length bs < n
Fronts o bs (faulty f) = Unit {0}

-- only what is lacking can change
abbrev pub Stays : AtHand → AtHand → Type 0
Stays (whole e) after = after ≡ whole e
Stays (lacking n) after = Unit {0}
Stays (faulty f) after = after ≡ faulty f

-- bytes that are a record with anything behind it give that record
abbrev pub ReadsAs : Order → List ℕ → Entry → Type 0
ReadsAs o bs e = (rest : List ℕ) → at_hand o (bs ++ rest) ≡ whole e
