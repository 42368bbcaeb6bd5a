-- Numbers as bytes, in either order.
-- number_bytes: the bytes of a number of some width; number_of_bytes: the number that bytes are
-- Little: the lowest byte first; Big: the highest. Each byte is worth 256 times the next lower one.
-- number_at: the number that the bytes from a place on are
-- word_bytes, word_at: the same of four bytes; half_bytes, half_at: of two
-- Bytes: each element of a list is a byte
-- Assumes nothing.
use Rattle.std.specs.Prelude.{ℕ, ◌<◌, List, take, drop, slice_index}
use Rattle.std.specs.Int.{Width, w16, w32, byte_len, to_le_bytes, to_be_bytes, from_le_bytes, from_be_bytes}
use Rattle.capture.specs.declared.layout.Order.{Order}
use Rattle.capture.specs.declared.layout.Order.TheVariants.{Little, Big}

abbrev pub number_bytes : Width → Order → ℕ → List ℕ
number_bytes w Little n = to_le_bytes w n
number_bytes w Big n = to_be_bytes w n

abbrev pub number_of_bytes : Width → Order → List ℕ → ℕ
number_of_bytes w Little bs = from_le_bytes w bs
number_of_bytes w Big bs = from_be_bytes w bs

abbrev pub number_at : Width → Order → List ℕ → ℕ → ℕ
number_at w o bs i = number_of_bytes w o (take (byte_len w) (drop i bs))

abbrev pub word_bytes : Order → ℕ → List ℕ
word_bytes o n = number_bytes w32 o n

abbrev pub half_bytes : Order → ℕ → List ℕ
half_bytes o n = number_bytes w16 o n

abbrev pub word_at : Order → List ℕ → ℕ → ℕ
word_at o bs i = number_at w32 o bs i

abbrev pub half_at : Order → List ℕ → ℕ → ℕ
half_at o bs i = number_at w16 o bs i

abbrev pub Bytes : List ℕ → Type 0
Bytes bs = (i : ℕ) → slice_index bs i < 256
