-- A file's header.
-- magic, major_version, minor_version, ethernet, file_head_size: what every capture has
-- header_bytes: a header as it is written; Fit: its numbers are of 32 bits
-- order_of: the order in which bytes begin with the magic number; header_of: the header that a file begins with
-- HeaderFronts: the header that a file begins with, written, is the file's front
-- HeaderReadsAs: bytes read as a header, whatever follows
-- Assumes nothing.
use Rattle.std.specs.Prelude.{◌≡◌, ℕ, ◌^◌, ◌<◌, cond, ◌&&◌, List, ◌++◌, length, drop, Some, None, Ok, Err, Option, Result, ◌==◌, nat_lt}
use Rattle.capture.specs.declared.layout.Order.{Order}
use Rattle.capture.specs.declared.layout.Order.TheVariants.{Little, Big}
use Rattle.capture.specs.declared.layout.Refusal.{Refusal}
use Rattle.capture.specs.declared.layout.Refusal.TheVariants.{ShortFile, BadMagic, BadVersion, BadLink}
use Rattle.capture.specs.declared.layout.FileHeader.{FileHeader}
use Rattle.capture.specs.Numbers.{word_bytes, half_bytes, word_at, half_at}

abbrev pub magic : ℕ
magic = 0xa1b2c3d4

abbrev pub major_version : ℕ
major_version = 2

abbrev pub minor_version : ℕ
minor_version = 4

abbrev pub ethernet : ℕ
ethernet = 1

abbrev pub file_head_size : ℕ
file_head_size = 24

abbrev pub header_bytes : FileHeader → List ℕ
header_bytes h =
    word_bytes h.order magic
    ++ (half_bytes h.order major_version
    ++ (half_bytes h.order minor_version
    ++ (word_bytes h.order h.zone
    ++ (word_bytes h.order h.accuracy ++ (word_bytes h.order h.snap_length ++ word_bytes h.order ethernet)))))

pub record Fit (h : FileHeader) : Type 0 where
  pub zone : h.zone < 2 ^ 32
  pub accuracy : h.accuracy < 2 ^ 32
  pub snap : h.snap_length < 2 ^ 32

abbrev pub order_of : List ℕ → Option Order
order_of bs = cond (word_at Little bs 0 == magic) (Some Little) (cond (word_at Big bs 0 == magic) (Some Big) None)

abbrev pub header_at : Order → List ℕ → FileHeader
header_at o bs = record { order = o; zone = word_at o bs 8; accuracy = word_at o bs 12; snap_length = word_at o bs 16 }

-- the rest of the header, in the order that the magic number has
abbrev pub header_in : Option Order → List ℕ → Result FileHeader Refusal
header_in None bs = Err BadMagic
header_in (Some o) bs =
    cond (half_at o bs 4 == major_version && half_at o bs 6 == minor_version)
    (cond (word_at o bs 20 == ethernet) (Ok (header_at o bs)) (Err BadLink))
    (Err BadVersion)

abbrev pub header_of : List ℕ → Result FileHeader Refusal
header_of bs = cond (nat_lt (length bs) file_head_size) (Err ShortFile) (header_in (order_of bs) bs)

abbrev pub HeaderFronts : List ℕ → Result FileHeader Refusal → Type 0
HeaderFronts bs (Ok h) = Fit h × (bs ≡ header_bytes h ++ drop file_head_size bs)
HeaderFronts bs (Err f) = Unit {0}

abbrev pub HeaderReadsAs : List ℕ → FileHeader → Type 0
HeaderReadsAs bs h = (rest : List ℕ) → header_of (bs ++ rest) ≡ Ok h
