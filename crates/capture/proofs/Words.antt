-- Numbers and their bytes: either gives the other.
use Rattle.std.proofs.Common.{◌≡◌, ℕ, zero, suc, ◌+◌, ◌^◌, ◌<◌, ◌≤◌, List, [], ◌∷◌, ◌++◌, length, take, drop, sym, refl, lit<, ap, ◌∙◌, arith}
use Rattle.std.proofs.lemmas.List.{take-append-drop, drop-drop, length-drop, length-take-le, drop-append-le, take-append-le, get_or-drop}
use Rattle.std.proofs.lemmas.Nat.{le_bytes_2, be_bytes_2, le_bytes_4, be_bytes_4, from_le_bytes-to_le_bytes_2, from_be_bytes-to_be_bytes_2, from_le_bytes-to_le_bytes_4, from_be_bytes-to_be_bytes_4}
use Rattle.std.specs.Int.{Width, w16, w32, byte_len}
use Rattle.capture.specs.declared.layout.Order.{Order}
use Rattle.capture.specs.declared.layout.Order.TheVariants.{Little, Big}
use Rattle.capture.specs.Numbers.{number_bytes, number_of_bytes, number_at, word_at, Bytes}

-- at a width, a number and its bytes give one another
pub record Whole (w : Width) : Type 0 where
  pub read : (o : Order) (n : ℕ) → n < 256 ^ byte_len w → number_of_bytes w o (number_bytes w o n) ≡ n
  pub written : (o : Order) (bs : List ℕ) → length bs ≡ byte_len w → Bytes bs → number_bytes w o (number_of_bytes w o bs) ≡ bs

word_read : (o : Order) (n : ℕ) → n < 2 ^ 32 → number_of_bytes w32 o (number_bytes w32 o n) ≡ n
word_read Little n h = from_le_bytes-to_le_bytes_4 n h
word_read Big n h = from_be_bytes-to_be_bytes_4 n h

word_written : (o : Order) (bs : List ℕ) → length bs ≡ 4 → Bytes bs → number_bytes w32 o (number_of_bytes w32 o bs) ≡ bs
word_written Little bs l small = le_bytes_4 bs (number_of_bytes w32 Little bs) l small refl
word_written Big bs l small = be_bytes_4 bs (number_of_bytes w32 Big bs) l small refl

pub words : Whole w32
words = record { read = word_read; written = word_written }

half_read : (o : Order) (n : ℕ) → n < 2 ^ 16 → number_of_bytes w16 o (number_bytes w16 o n) ≡ n
half_read Little n h = from_le_bytes-to_le_bytes_2 n h
half_read Big n h = from_be_bytes-to_be_bytes_2 n h

half_written : (o : Order) (bs : List ℕ) → length bs ≡ 2 → Bytes bs → number_bytes w16 o (number_of_bytes w16 o bs) ≡ bs
half_written Little bs l small = le_bytes_2 bs (number_of_bytes w16 Little bs) l small refl
half_written Big bs l small = be_bytes_2 bs (number_of_bytes w16 Big bs) l small refl

pub halves : Whole w16
halves = record { read = half_read; written = half_written }

-- a part of bytes is bytes
bytes_take : (k : ℕ) (bs : List ℕ) → Bytes bs → Bytes (take k bs)
bytes_take zero bs small i = lit< tt
bytes_take (suc k) [] small i = lit< tt
bytes_take (suc k) (b ∷ bs) small zero = small 0
bytes_take (suc k) (b ∷ bs) small (suc i) = bytes_take k bs (λ j. small (suc j)) i

bytes_drop : (i : ℕ) (bs : List ℕ) → Bytes bs → Bytes (drop i bs)
bytes_drop i bs small j = rw get_or-drop (small (i + j))

pub word_small : (o : Order) (bs : List ℕ) (i : ℕ) → Bytes bs → word_at o bs i < 2 ^ 32
word_small Little bs i small = let four = bytes_take 4 (drop i bs) (bytes_drop i bs small) in omega (arith, four 0, four 1, four 2, four 3)
word_small Big bs i small = let four = bytes_take 4 (drop i bs) (bytes_drop i bs small) in omega (arith, four 0, four 1, four 2, four 3)

-- a number's bytes come off the front of what is left
pub number_off : {w : Width} → Whole w → (o : Order) (bs : List ℕ) (i : ℕ) → Bytes bs → i + byte_len w ≤ length bs →
    drop i bs ≡ number_bytes w o (number_at w o bs i) ++ drop (i + byte_len w) bs
number_off {w} whole o bs i small h =
    let k = byte_len w in
    let long : length (take k (drop i bs)) ≡ k = length-take-le k (drop i bs) (omega (arith, length-drop i bs)) in
    let back = whole.written o (take k (drop i bs)) long (bytes_take k (drop i bs) (bytes_drop i bs small)) in
    sym (take-append-drop k (drop i bs)) ∙ ap (λ l. l ++ drop k (drop i bs)) (sym back) ∙ ap (λ l. number_bytes w o (number_at w o bs i) ++ l) (drop-drop k i bs)

-- what follows changes no number
pub number_stays : (w : Width) (o : Order) (bs more : List ℕ) (i : ℕ) → i + byte_len w ≤ length bs → number_at w o (bs ++ more) i ≡ number_at w o bs i
number_stays w o bs more i h =
    let k = byte_len w in
    let inside : i ≤ length bs = omega arith in
    let enough : k ≤ length (drop i bs) = omega (arith, length-drop i bs) in
    ap (λ l. number_of_bytes w o (take k l)) (drop-append-le i bs more inside) ∙ ap (λ l. number_of_bytes w o l) (take-append-le k (drop i bs) more enough)
