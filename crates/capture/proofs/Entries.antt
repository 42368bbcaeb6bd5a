-- Records and their bytes: what is read, written, is the front of the bytes, and what is written is read again.
use Rattle.std.proofs.Common.{◌≡◌, ℕ, ◌+◌, ◌^◌, ◌<◌, ◌≤◌, List, ◌++◌, length, take, drop, Ok, Err, Result, sym, refl, ap, ◌∙◌, append_assoc, arith}
use Rattle.std.proofs.lemmas.List.{take-append-drop, drop-drop, length-drop, length-take-le, length-append, take_at, drop-append-le, take-append-le}
use Rattle.std.proofs.lemmas.Bool.Decides.{nat_tests}
use Rattle.capture.specs.declared.layout.Order.{Order}
use Rattle.capture.specs.declared.layout.Order.TheVariants.{Little, Big}
use Rattle.capture.specs.declared.layout.Refusal.{Refusal}
use Rattle.std.specs.Int.{w32}
use Rattle.capture.specs.Numbers.{word_bytes, word_at, Bytes}
use Rattle.capture.specs.Records.{most_fraction, most_original, most_captured, head_size, check_of, check_at, Entry, Good, record_bytes, whole, entry_at, framed, at_hand, Fronts, Stays}
use Rattle.capture.proofs.Words.{words, number_off, word_small, number_stays}

-- a record that passes has small numbers
pub record Small (m c l : ℕ) : Type 0 where
  pub fraction : m ≤ most_fraction
  pub some : 0 < l
  pub original : l ≤ most_original
  pub within : c ≤ l
  pub captured : c ≤ most_captured

pub small_from_check : (m c l : ℕ) → check_of m c l ≡ Ok tt → Small m c l
small_from_check m c l e =
    record {
      fraction = grind (arith, nat_tests);
      some = grind (arith, nat_tests);
      original = grind (arith, nat_tests);
      within = grind (arith, nat_tests);
      captured = grind (arith, nat_tests);
    }

-- a header comes off the front
pub head_off : (o : Order) (bs : List ℕ) → Bytes bs → head_size ≤ length bs →
    bs ≡ word_bytes o (word_at o bs 0) ++ (word_bytes o (word_at o bs 4) ++ (word_bytes o (word_at o bs 8) ++ (word_bytes o (word_at o bs 12) ++ drop head_size bs)))
head_off o bs small h =
    let h0 : 4 ≤ length bs = omega arith in
    let h4 : 8 ≤ length bs = omega arith in
    let h8 : 12 ≤ length bs = omega arith in
    number_off words o bs 0 small h0
    ∙ ap (λ l. word_bytes o (word_at o bs 0) ++ l) (number_off words o bs 4 small h4
    ∙ ap (λ l. word_bytes o (word_at o bs 4) ++ l) (number_off words o bs 8 small h8
    ∙ ap (λ l. word_bytes o (word_at o bs 8) ++ l) (number_off words o bs 12 small h)))

module _ (o : Order) (bs : List ℕ) (small : Bytes bs) where
  frame_fronts : check_at o bs ≡ Ok tt → head_size + word_at o bs 8 ≤ length bs → Fronts o bs (whole (entry_at o bs))
  frame_fronts e h =
      let n = word_at o bs 8 in
      let frame = take n (drop head_size bs) in
      let room : n ≤ length (drop head_size bs) = omega (arith, length-drop head_size bs) in
      let len : length frame ≡ n = length-take-le n (drop head_size bs) room in
      let h16 : head_size ≤ length bs = omega arith in
      let back : drop head_size bs ≡ frame ++ drop (head_size + n) bs =
      sym (take-append-drop n (drop head_size bs)) ∙ ap (λ l. frame ++ l) (drop-drop n head_size bs) in
      let spelled : bs ≡ ((word_bytes o (word_at o bs 0) ++ (word_bytes o (word_at o bs 4) ++ (word_bytes o n ++ word_bytes o (word_at o bs 12)))) ++ frame) ++ drop (head_size + n) bs =
      head_off o bs small h16
      ∙ ap (λ l. word_bytes o (word_at o bs 0) ++ (word_bytes o (word_at o bs 4) ++ (word_bytes o n ++ (word_bytes o (word_at o bs 12) ++ l)))) back
      ∙ simp append_assoc in (
        record { seconds = word_small o bs 0 small; numbers = ap (λ k. check_of (word_at o bs 4) k (word_at o bs 12)) len ∙ e },
        spelled ∙ ap (λ k. ((word_bytes o (word_at o bs 0) ++ (word_bytes o (word_at o bs 4) ++ (word_bytes o k ++ word_bytes o (word_at o bs 12)))) ++ frame) ++ drop (head_size + k) bs) (sym len),
      )

  framed_fronts : (r : Result (Unit {0}) Refusal) → check_at o bs ≡ r → Fronts o bs (framed r o bs)
  framed_fronts (Err f) e = tt
  framed_fronts (Ok u) e = grind (arith, nat_tests, frame_fronts)

  -- the record that bytes give is good and, written, is their front
  pub fronts : Fronts o bs (at_hand o bs)
  fronts = grind (arith, nat_tests, framed_fronts)

-- what the checks come to where they all pass
pub whole_at : (o : Order) (bs : List ℕ) → check_at o bs ≡ Ok tt → head_size + word_at o bs 8 ≤ length bs →
    at_hand o bs ≡ whole (entry_at o bs)
whole_at o bs e h = grind (arith, nat_tests)

pub same_entry : {s s' m m' l l' : ℕ} {f f' : List ℕ} → s ≡ s' → m ≡ m' → l ≡ l' → f ≡ f' →
    ◌≡◌ {A = Entry} (record { seconds = s; microseconds = m; original = l; frame = f }) (record { seconds = s'; microseconds = m'; original = l'; frame = f' })
same_entry p q r t = cc

-- the numbers of a record that is written, and what is behind them
pub record Written (o : Order) (e : Entry) (bs rest : List ℕ) : Type 0 where
  pub seconds : word_at o bs 0 ≡ e.seconds
  pub microseconds : word_at o bs 4 ≡ e.microseconds
  pub captured : word_at o bs 8 ≡ length e.frame
  pub original : word_at o bs 12 ≡ e.original
  pub behind : drop head_size bs ≡ e.frame ++ rest
  pub long : length bs ≡ head_size + length e.frame + length rest

words_written : (o : Order) (e : Entry) (rest : List ℕ) → e.seconds < 2 ^ 32 → e.microseconds < 2 ^ 32 → length e.frame < 2 ^ 32 → e.original < 2 ^ 32 →
    Written o e (record_bytes o e ++ rest) rest
words_written Little e rest s m c l =
    record {
      seconds = words.read Little e.seconds s;
      microseconds = words.read Little e.microseconds m;
      captured = words.read Little (length e.frame) c;
      original = words.read Little e.original l;
      behind = refl;
      long = omega (arith, length-append e.frame rest);
    }
words_written Big e rest s m c l =
    record {
      seconds = words.read Big e.seconds s;
      microseconds = words.read Big e.microseconds m;
      captured = words.read Big (length e.frame) c;
      original = words.read Big e.original l;
      behind = refl;
      long = omega (arith, length-append e.frame rest);
    }

pub good_written : (o : Order) (e : Entry) (rest : List ℕ) → Good e → Written o e (record_bytes o e ++ rest) rest
good_written o e rest g =
    let s = small_from_check e.microseconds (length e.frame) e.original g.numbers in
    words_written o e rest g.seconds (omega (arith, s.fraction)) (omega (arith, s.captured)) (omega (arith, s.original))

-- what is written is read again
pub read_again : (o : Order) (e : Entry) (rest : List ℕ) → Good e → at_hand o (record_bytes o e ++ rest) ≡ whole e
read_again o e rest g =
    let bs = record_bytes o e ++ rest in
    let w = good_written o e rest g in
    let numbers : check_at o bs ≡ Ok tt =
    ap (λ k. check_of k (word_at o bs 8) (word_at o bs 12)) w.microseconds
    ∙ ap (λ k. check_of e.microseconds k (word_at o bs 12)) w.captured
    ∙ ap (λ k. check_of e.microseconds (length e.frame) k) w.original ∙ g.numbers in
    let room : head_size + word_at o bs 8 ≤ length bs = omega (arith, w.captured, w.long) in
    let frame : take (word_at o bs 8) (drop head_size bs) ≡ e.frame =
    ap (λ l. take (word_at o bs 8) l) w.behind ∙ take_at e.frame rest (word_at o bs 8) (sym w.captured) in
    whole_at o bs numbers room ∙ ap (λ x. whole x) (same_entry w.seconds w.microseconds w.original frame)

-- what follows changes nothing that is decided
module _ (o : Order) (bs more : List ℕ) where
  frame_stays : check_at o bs ≡ Ok tt → head_size + word_at o bs 8 ≤ length bs →
      Stays (whole (entry_at o bs)) (at_hand o (bs ++ more))
  frame_stays e h =
      let n = word_at o bs 8 in
      let all : length (bs ++ more) ≡ length bs + length more = length-append bs more in
      let w0 = number_stays w32 o bs more 0 (omega arith) in
      let w4 = number_stays w32 o bs more 4 (omega arith) in
      let w8 = number_stays w32 o bs more 8 (omega arith) in
      let w12 = number_stays w32 o bs more 12 (omega arith) in
      let numbers : check_at o (bs ++ more) ≡ Ok tt =
      ap (λ k. check_of k (word_at o (bs ++ more) 8) (word_at o (bs ++ more) 12)) w4
      ∙ ap (λ k. check_of (word_at o bs 4) k (word_at o (bs ++ more) 12)) w8
      ∙ ap (λ k. check_of (word_at o bs 4) n k) w12 ∙ e in
      let room : head_size + word_at o (bs ++ more) 8 ≤ length (bs ++ more) = omega (arith, w8, all) in
      let inside : head_size ≤ length bs = omega arith in
      let enough : n ≤ length (drop head_size bs) = omega (arith, length-drop head_size bs) in
      let frame : take (word_at o (bs ++ more) 8) (drop head_size (bs ++ more)) ≡ take n (drop head_size bs) =
      ap (λ k. take k (drop head_size (bs ++ more))) w8
      ∙ ap (λ l. take n l) (drop-append-le head_size bs more inside)
      ∙ take-append-le n (drop head_size bs) more enough in
      whole_at o (bs ++ more) numbers room ∙ ap (λ x. whole x) (same_entry w0 w4 w12 frame)

  framed_stays : (r : Result (Unit {0}) Refusal) → check_at o bs ≡ r → head_size ≤ length bs →
      Stays (framed r o bs) (at_hand o (bs ++ more))
  framed_stays (Ok u) e h = grind (arith, nat_tests, frame_stays)
  framed_stays (Err f) e h =
      let all : length (bs ++ more) ≡ length bs + length more = length-append bs more in
      let longer : head_size ≤ length (bs ++ more) = omega (arith, all) in
      let w4 = number_stays w32 o bs more 4 (omega arith) in
      let w8 = number_stays w32 o bs more 8 (omega arith) in
      let w12 = number_stays w32 o bs more 12 (omega arith) in
      let numbers : check_at o (bs ++ more) ≡ Err f =
      ap (λ k. check_of k (word_at o (bs ++ more) 8) (word_at o (bs ++ more) 12)) w4
      ∙ ap (λ k. check_of (word_at o bs 4) k (word_at o (bs ++ more) 12)) w8
      ∙ ap (λ k. check_of (word_at o bs 4) (word_at o bs 8) k) w12 ∙ e in
      grind (arith, nat_tests, numbers, longer)

  pub stays : Stays (at_hand o bs) (at_hand o (bs ++ more))
  stays = grind (arith, nat_tests, framed_stays)
