-- What each byte of a number is worth.
use Rattle.std.proofs.Common.{◌≡◌, ℕ, ◌+◌, ◌<◌, List, get_or, take, drop, refl, lit<, ap, ◌∙◌, add-zero, arith}
use Rattle.std.proofs.lemmas.List.{get_or-take, get_or-drop}
use Rattle.capture.specs.Laws.{NumbersSpelt}

byte : (w : ℕ) (bs : List ℕ) (i k : ℕ) → k < w → get_or (take w (drop i bs)) k 0 ≡ get_or bs (i + k) 0
byte w bs i k h = get_or-take w (drop i bs) k 0 h ∙ get_or-drop i bs k 0

first_byte : (w : ℕ) (bs : List ℕ) (i : ℕ) → 0 < w → get_or (take w (drop i bs)) 0 0 ≡ get_or bs i 0
first_byte w bs i h = byte w bs i 0 h ∙ ap (λ n. get_or bs n 0) (add-zero i)

pub numbers_spelt : NumbersSpelt
numbers_spelt =
    record {
      word_low = λ bs i.
          let a = first_byte 4 bs i (lit< tt) in let b = byte 4 bs i 1 (lit< tt) in
          let c = byte 4 bs i 2 (lit< tt) in let d = byte 4 bs i 3 (lit< tt) in omega (arith, a, b, c, d);
      word_high = λ bs i.
          let a = first_byte 4 bs i (lit< tt) in let b = byte 4 bs i 1 (lit< tt) in
          let c = byte 4 bs i 2 (lit< tt) in let d = byte 4 bs i 3 (lit< tt) in omega (arith, a, b, c, d);
      half_low = λ bs i. let a = first_byte 2 bs i (lit< tt) in let b = byte 2 bs i 1 (lit< tt) in omega (arith, a, b);
      half_high = λ bs i. let a = first_byte 2 bs i (lit< tt) in let b = byte 2 bs i 1 (lit< tt) in omega (arith, a, b);
      word_bytes_low = λ n. refl;
      word_bytes_high = λ n. refl;
      half_bytes_low = λ n. refl;
      half_bytes_high = λ n. refl;
    }
