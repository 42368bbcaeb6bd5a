-- The laws of reading and writing.
-- ReadsAgree: a capture has one reading; IndexesAgree: and one index, however it came in
-- WrittenReads: a header and records, written one after another, read as themselves, in either order
-- FramesLie: a frame handed out is a part of the capture, 16 bytes from its record's place
-- DecidedStays: what bytes give is what they give with more behind them
-- NumbersSpelt: what each byte of a number is worth, in either order
-- Assumes nothing.
use Rattle.std.specs.Prelude.{◌≡◌, ℕ, ◌+◌, ◌*◌, ◌/◌, ◌%◌, List, [], ◌∷◌, slice_index, ◌++◌, length, take, drop, Some, Ok, vec_items, Option}
use Rattle.capture.specs.declared.layout.Order.{Order}
use Rattle.capture.specs.declared.layout.FileHeader.{FileHeader}
use Rattle.capture.specs.declared.layout.Index.{Index}
use Rattle.capture.specs.declared.layout.Order.TheVariants.{Little, Big}
use Rattle.capture.specs.Numbers.{word_bytes, half_bytes, word_at, half_at}
use Rattle.capture.specs.Records.{head_size, at_hand, Stays}
use Rattle.capture.specs.Headers.{file_head_size, header_bytes, Fit}
use Rattle.capture.specs.Reading.{PlacedEntry, written, Follow, AllGood, Ending, Reads}
use Rattle.capture.specs.Indexing.{Indexes}

abbrev pub ReadsAgree : Type 0
ReadsAgree =
    (input : List ℕ) (h h' : Option FileHeader) (rs rs' : List PlacedEntry) (e e' : Ending) →
    Reads input h rs e → Reads input h' rs' e' → (h ≡ h') × (rs ≡ rs') × (e ≡ e')

abbrev pub IndexesAgree : Type 0
IndexesAgree =
    (input : List ℕ) (x y : Index) → Indexes input x → Indexes input y →
    (x.header ≡ y.header) × (vec_items x.entries ≡ vec_items y.entries) × (x.ending ≡ y.ending)

-- the numbers of the header are of 32 bits, the records are allowed, and each stands where the one before it ends
abbrev pub WrittenReads : Type 0
WrittenReads =
    (h : FileHeader) (rs : List PlacedEntry) (end : ℕ) → Fit h → AllGood rs → Follow file_head_size rs end →
    Reads (header_bytes h ++ written h.order rs) (Some h) rs (Ok tt)

abbrev pub FramesLie : Type 0
FramesLie =
    (input : List ℕ) (h : FileHeader) (rs : List PlacedEntry) (e : Ending) → Reads input (Some h) rs e →
    (xs : List PlacedEntry) (r : PlacedEntry) (ys : List PlacedEntry) → rs ≡ xs ++ (r ∷ ys) →
    take (length r.entry.frame) (drop (r.place + head_size) input) ≡ r.entry.frame

abbrev pub DecidedStays : Type 0
DecidedStays = (o : Order) (bs more : List ℕ) → Stays (at_hand o bs) (at_hand o (bs ++ more))

pub record NumbersSpelt : Type 0 where
  pub word_low : (bs : List ℕ) (i : ℕ) → word_at Little bs i ≡ slice_index bs i + slice_index bs (i + 1) * 256 + slice_index bs (i + 2) * 65536 + slice_index bs (i + 3) * 16777216
  pub word_high : (bs : List ℕ) (i : ℕ) → word_at Big bs i ≡ slice_index bs i * 16777216 + slice_index bs (i + 1) * 65536 + slice_index bs (i + 2) * 256 + slice_index bs (i + 3)
  pub half_low : (bs : List ℕ) (i : ℕ) → half_at Little bs i ≡ slice_index bs i + slice_index bs (i + 1) * 256
  pub half_high : (bs : List ℕ) (i : ℕ) → half_at Big bs i ≡ slice_index bs i * 256 + slice_index bs (i + 1)
  pub word_bytes_low : (n : ℕ) → word_bytes Little n ≡ (n % 256) ∷ (n / 256 % 256) ∷ (n / 65536 % 256) ∷ (n / 16777216 % 256) ∷ []
  pub word_bytes_high : (n : ℕ) → word_bytes Big n ≡ (n / 16777216 % 256) ∷ (n / 65536 % 256) ∷ (n / 256 % 256) ∷ (n % 256) ∷ []
  pub half_bytes_low : (n : ℕ) → half_bytes Little n ≡ (n % 256) ∷ (n / 256 % 256) ∷ []
  pub half_bytes_high : (n : ℕ) → half_bytes Big n ≡ (n / 256 % 256) ∷ (n % 256) ∷ []
