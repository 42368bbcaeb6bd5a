-- The texts of the words are short, and no line feed stands in them.
-- clean: no byte is a line feed; Tidy: clean, and of at most so many bytes
-- Assumes nothing.
use Rattle.std.proofs.Common.{◌≡◌, ℕ, ◌+◌, ◌/◌, ◌%◌, ◌^◌, ◌<◌, ◌≤◌, Bool, true, not, ◌&&◌, eqb, List, [], ◌∷◌, ◌++◌, length, Some, None, decimal, Option, refl, arith}
use Rattle.std.specs.Char.{is_ascii_digit, digit_char}
use Rattle.std.specs.Str.{all_ascii_digits}
use Rattle.std.proofs.lemmas.Fmt.{digits_decimal, length-decimal-le}
use Rattle.std.proofs.lemmas.List.{length-append}
use Rattle.std.proofs.lemmas.Bool.{and_parts, and_from, ne_eqb, not_from_false}
use Rattle.std.proofs.lemmas.Bool.Decides.{nat_tests}
use Rattle.packet.specs.declared.kinds.Class.{Class}
use Rattle.packet.specs.declared.kinds.Class.TheVariants.{One, Two, Three, Four}
use Rattle.packet.specs.declared.kinds.Station.{Station}
use Rattle.packet.specs.Kinds.{class_number}
use Rattle.meter.specs.declared.measures.Mode.{Mode}
use Rattle.meter.specs.declared.measures.Mode.TheVariants.{Blind, Aware}
use Rattle.policy.specs.declared.rules.Prefix.{Prefix}
use Rattle.policy_words.specs.Texts.{word_on, part_text, prefix_text, PrefixOk, pairs_text, station_text, StationOk, protocol_text, ProtocolOk, class_text, mode_text}
use Rattle.policy_words.proofs.Digits.{own}
use Rattle.policy_words.proofs.Octets.{prefix_short}

abbrev pub clean : List ℕ → Bool
clean [] = true
clean (c ∷ cs) = not (eqb c 10) && clean cs

abbrev pub Tidy : ℕ → List ℕ → Type 0
Tidy n l = (clean l ≡ true) × (length l ≤ n)

clean_digits : (ds t : List ℕ) → all_ascii_digits ds ≡ true → clean t ≡ true → clean (ds ++ t) ≡ true
clean_digits [] t p h = h
clean_digits (d ∷ ds) t p h =
    let q = and_parts (is_ascii_digit d) (all_ascii_digits ds) p in
    and_from (not (eqb d 10)) (clean (ds ++ t)) (no_feed d q.0) (clean_digits ds t q.1 h)
  where
    no_feed : (d : ℕ) → is_ascii_digit d ≡ true → not (eqb d 10) ≡ true
    no_feed d e = grind (arith, nat_tests)

-- a number of at most k digits
pub tidy_decimal : (k n v : ℕ) (t : List ℕ) → 1 ≤ k → v < 10 ^ k → v < 2 ^ 64 → Tidy n t → Tidy (k + n) (decimal v ++ t)
tidy_decimal k n v t some few big h =
    let short = h.1 in
    (clean_digits (decimal v) t (digits_decimal own v big) h.0, omega (arith, length-append (decimal v) t, length-decimal-le k v some few big))

pub tidy_word : (n v : ℕ) (t : List ℕ) → v < 10 ^ 13 → Tidy n t → Tidy (14 + n) (word_on v t)
tidy_word n v t few h =
    let d = tidy_decimal 13 n v t (omega arith) few (omega arith) h in
    let short = d.1 in
    (d.0, omega arith)

tidy_part : (n v b : ℕ) (t : List ℕ) → v ≤ 255 → not (eqb b 10) ≡ true → Tidy n t → Tidy (4 + n) (part_text v b t)
tidy_part n v b t low no_feed h =
    let after = h.1 in
    let d = tidy_decimal 3 (1 + n) v (b ∷ t) (omega arith) (omega arith) (omega arith) (and_from (not (eqb b 10)) (clean t) no_feed h.0, omega arith) in
    let short = d.1 in
    (d.0, omega arith)

pub tidy_prefix : (n : ℕ) (p : Prefix) (t : List ℕ) → PrefixOk p → Tidy n t → Tidy (19 + n) (prefix_text p t)
unfolding prefix_text
tidy_prefix n p t ok h =
    let bits = prefix_short p ok in
    let small = ok.1 in
    let a = p.address.0 in
    let low-1 : a / 16777216 ≤ 255 = omega arith in
    let low-2 : a / 65536 % 256 ≤ 255 = omega arith in
    let low-3 : a / 256 % 256 ≤ 255 = omega arith in
    let low-4 : a % 256 ≤ 255 = omega arith in
    let l = tidy_decimal 2 n p.length t (omega arith) (omega arith) (omega arith) h in
    let d = tidy_part (2 + n) (a % 256) 47 _ low-4 refl l in
    let c = tidy_part (4 + (2 + n)) (a / 256 % 256) 46 _ low-3 refl d in
    let b = tidy_part (4 + (4 + (2 + n))) (a / 65536 % 256) 46 _ low-2 refl c in
    let w = tidy_part (4 + (4 + (4 + (2 + n)))) (a / 16777216) 46 _ low-1 refl b in
    let short = w.1 in
    (w.0, omega arith)

tidy_pairs : (n : ℕ) (bs t : List ℕ) → Tidy n t → Tidy (length bs + (length bs + n)) (pairs_text bs t)
tidy_pairs n [] t h = let short = h.1 in (h.0, omega arith)
tidy_pairs n (b ∷ bs) t h =
    let ih = tidy_pairs n bs t h in
    let short = ih.1 in
    let low = and_from (not (eqb (digit_char (b % 16)) 10)) (clean (pairs_text bs t)) (no_feed (b % 16)) ih.0 in
    (and_from (not (eqb (digit_char (b / 16)) 10)) (clean (digit_char (b % 16) ∷ pairs_text bs t)) (no_feed (b / 16)) low, omega arith)
  where
    no_feed : (d : ℕ) → not (eqb (digit_char d) 10) ≡ true
    no_feed d = not_from_false (eqb (digit_char d) 10) (ne_eqb (digit_char d) 10 (λ e. grind (arith, nat_tests)))

pub tidy_station : (n : ℕ) (s : Option Station) (t : List ℕ) → StationOk s → Tidy n t → Tidy (13 + n) (station_text s t)
unfolding station_text
tidy_station n None t ok h = let short = h.1 in (h.0, omega arith)
tidy_station n (Some s) t ok h =
    let d = tidy_pairs n s.source t h in
    let short = d.1 in
    let six = ok.0 in
    (d.0, omega arith)

pub tidy_protocol : (n : ℕ) (o : Option ℕ) (t : List ℕ) → ProtocolOk o → Tidy n t → Tidy (4 + n) (protocol_text o t)
unfolding protocol_text
tidy_protocol n None t ok h = let short = h.1 in (h.0, omega arith)
tidy_protocol n (Some v) t ok h =
    let low : v ≤ 255 = ok in
    let d = tidy_decimal 3 n v t (omega arith) (omega arith) (omega arith) h in
    let short = d.1 in
    (d.0, omega arith)

pub tidy_class : (n : ℕ) (c : Class) (t : List ℕ) → Tidy n t → Tidy (2 + n) (class_text c t)
unfolding class_text
tidy_class n c t h =
    let low = one_digit c in
    let d = tidy_decimal 1 n (class_number c) t (omega arith) (omega arith) (omega arith) h in
    let short = d.1 in
    (d.0, omega arith)
  where
    one_digit : (c : Class) → class_number c < 10
    one_digit One = omega arith
    one_digit Two = omega arith
    one_digit Three = omega arith
    one_digit Four = omega arith

pub tidy_mode : (n : ℕ) (m : Mode) (t : List ℕ) → Tidy n t → Tidy (6 + n) (mode_text m t)
unfolding mode_text
tidy_mode n Blind t h = let short = h.1 in (h.0, omega arith)
tidy_mode n Aware t h = let short = h.1 in (h.0, omega arith)
