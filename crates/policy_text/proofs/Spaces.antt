-- The words of a line, counted by the spaces before them.
-- spaces: how many spaces a text has; Adds: what puts a text with so many spaces in front
-- Shared: two texts that are the same up to that many words
-- Assumes nothing.
use Rattle.std.proofs.Common.{◌≡◌, ℕ, zero, suc, ◌+◌, ◌/◌, ◌%◌, ◌^◌, ◌<◌, ◌≤◌, Bool, true, false, cond, eqb, List, [], ◌∷◌, ◌++◌, length, take, Some, None, codes, decimal, Option, sym, refl, ap, ◌∙◌, arith}
use Rattle.std.specs.Char.{is_ascii_digit, digit_char}
use Rattle.std.specs.Str.{all_ascii_digits}
use Rattle.std.proofs.lemmas.Fmt.{digits_decimal}
use Rattle.std.proofs.lemmas.List.{append_assoc}
use Rattle.std.proofs.lemmas.Bool.{cond-true, cond-false, and_parts, ne_eqb}
use Rattle.std.proofs.lemmas.Bool.Decides.{nat_tests}
use Rattle.packet.specs.declared.kinds.Class.{Class}
use Rattle.packet.specs.declared.kinds.Class.TheVariants.{One, Two, Three, Four}
use Rattle.packet.specs.declared.kinds.Station.{Station}
use Rattle.packet.specs.Kinds.{class_number}
use Rattle.meter.specs.declared.measures.Mode.{Mode}
use Rattle.meter.specs.declared.measures.Mode.TheVariants.{Blind, Aware}
use Rattle.policy.specs.declared.rules.Prefix.{Prefix}
use Rattle.policy_words.specs.Words.{stop}
use Rattle.policy_words.specs.Texts.{word_on, part_text, prefix_text, PrefixOk, pairs_text, station_text, protocol_text, ProtocolOk, class_text, mode_text}
use Rattle.policy_words.proofs.Digits.{own}
use Rattle.policy_words.proofs.Octets.{prefix_short}
use Rattle.policy_text.specs.Policies.{onto, cut_at, words_of}

abbrev pub spaces : List ℕ → ℕ
spaces [] = 0
spaces (c ∷ cs) = cond (eqb c 32) (suc (spaces cs)) (spaces cs)

spaces_append : (a b : List ℕ) → spaces (a ++ b) ≡ spaces a + spaces b
spaces_append [] b = omega arith
spaces_append (c ∷ a) b = go (eqb c 32) (spaces_append a b)
  where
    go : (e : Bool) → spaces (a ++ b) ≡ spaces a + spaces b → cond e (suc (spaces (a ++ b))) (spaces (a ++ b)) ≡ cond e (suc (spaces a)) (spaces a) + spaces b
    go true ih = omega (arith, ih)
    go false ih = ih

pub record Adds (k : ℕ) (f : List ℕ → List ℕ) : Type 0 where
  pub front : List ℕ
  pub count : spaces front ≡ k
  pub puts : (t : List ℕ) → f t ≡ front ++ t

pub both : {j k : ℕ} {f g : List ℕ → List ℕ} → Adds j f → Adds k g → Adds (j + k) (λ t. f (g t))
both {j} {k} {f} {g} a b = record {
  front = a.front ++ b.front;
  count = omega (arith, spaces_append a.front b.front, a.count, b.count);
  puts = λ t. ap f (b.puts t) ∙ a.puts (b.front ++ t) ∙ sym (append_assoc a.front b.front t);
}

digits_spaceless : (ds : List ℕ) → all_ascii_digits ds ≡ true → spaces ds ≡ 0
digits_spaceless [] p = refl
digits_spaceless (d ∷ ds) p =
    let q = and_parts (is_ascii_digit d) (all_ascii_digits ds) p in
    cond-false (eqb d 32) _ _ (ne_eqb d 32 (λ e. no_space d q.0 e)) ∙ digits_spaceless ds q.1
  where
    no_space : (d : ℕ) → is_ascii_digit d ≡ true → d ≡ 32 → ⊥
    no_space d e z = grind (arith, nat_tests)

adds_decimal : (v : ℕ) → v < 2 ^ 64 → Adds 0 (λ t. decimal v ++ t)
adds_decimal v big = record { front = decimal v; count = digits_spaceless (decimal v) (digits_decimal own v big); puts = λ t. refl }

adds_byte : (b : ℕ) → eqb b 32 ≡ false → Adds 0 (λ t. b ∷ t)
adds_byte b h = record { front = b ∷ []; count = cond-false (eqb b 32) 1 0 h; puts = λ t. refl }

adds_space : Adds 1 (λ t. 32 ∷ t)
adds_space = record { front = 32 ∷ []; count = refl; puts = λ t. refl }

pub adds_word : (v : ℕ) → v < 10 ^ 13 → Adds 1 (word_on v)
adds_word v few = both adds_space (adds_decimal v (omega arith))

adds_part : (v b : ℕ) → v ≤ 255 → eqb b 32 ≡ false → Adds 0 (part_text v b)
adds_part v b low h = both (adds_decimal v (omega arith)) (adds_byte b h)

pub adds_prefix : (p : Prefix) → PrefixOk p → Adds 1 (prefix_text p)
unfolding prefix_text
adds_prefix p ok =
    let bits = prefix_short p ok in
    let small = ok.1 in
    let a = p.address.0 in
    let low-1 : a / 16777216 ≤ 255 = omega arith in
    let low-2 : a / 65536 % 256 ≤ 255 = omega arith in
    let low-3 : a / 256 % 256 ≤ 255 = omega arith in
    let low-4 : a % 256 ≤ 255 = omega arith in
    both adds_space (both (adds_part (a / 16777216) 46 low-1 refl) (both (adds_part (a / 65536 % 256) 46 low-2 refl)
    (both (adds_part (a / 256 % 256) 46 low-3 refl) (both (adds_part (a % 256) 47 low-4 refl) (adds_decimal p.length (omega arith))))))

adds_pairs : (bs : List ℕ) → Adds 0 (pairs_text bs)
adds_pairs [] = record { front = []; count = refl; puts = λ t. refl }
adds_pairs (b ∷ bs) = both (adds_byte (digit_char (b / 16)) (no_space (b / 16))) (both (adds_byte (digit_char (b % 16)) (no_space (b % 16))) (adds_pairs bs))
  where
    no_space : (d : ℕ) → eqb (digit_char d) 32 ≡ false
    no_space d = ne_eqb (digit_char d) 32 (λ e. grind (arith, nat_tests))

pub adds_station : (s : Option Station) → Adds 1 (station_text s)
unfolding station_text
adds_station None = record { front = codes " any"; count = refl; puts = λ t. refl }
adds_station (Some s) = both adds_space (adds_pairs s.source)

pub adds_protocol : (o : Option ℕ) → ProtocolOk o → Adds 1 (protocol_text o)
unfolding protocol_text
adds_protocol None ok = record { front = codes " any"; count = refl; puts = λ t. refl }
adds_protocol (Some v) ok = let low : v ≤ 255 = ok in adds_word v (omega arith)

pub adds_class : (c : Class) → Adds 1 (class_text c)
unfolding class_text
adds_class c = adds_word (class_number c) (few c)
  where
    few : (c : Class) → class_number c < 10 ^ 13
    few One = omega arith
    few Two = omega arith
    few Three = omega arith
    few Four = omega arith

pub adds_mode : (m : Mode) → Adds 1 (mode_text m)
unfolding mode_text
adds_mode Blind = record { front = codes " blind"; count = refl; puts = λ t. refl }
adds_mode Aware = record { front = codes " aware"; count = refl; puts = λ t. refl }

-- the same front, up to a word's end in both
pub record Shared (k : ℕ) (t u : List ℕ) : Type 0 where
  pub front : List ℕ
  pub one : List ℕ
  pub other : List ℕ
  pub count : spaces front ≡ k
  pub is_one : t ≡ front ++ one
  pub is_other : u ≡ front ++ other
  pub one_stops : stop one ≡ true
  pub other_stops : stop other ≡ true

pub shared_none : (t u : List ℕ) → stop t ≡ true → stop u ≡ true → Shared 0 t u
shared_none t u h g = record { front = []; one = t; other = u; count = refl; is_one = refl; is_other = refl; one_stops = h; other_stops = g }

pub shared_on : (j k : ℕ) (f : List ℕ → List ℕ) (t u : List ℕ) → Adds j f → Shared k t u → Shared (j + k) (f t) (f u)
shared_on j k f t u a s = record {
  front = a.front ++ s.front;
  one = s.one;
  other = s.other;
  count = omega (arith, spaces_append a.front s.front, a.count, s.count);
  is_one = ap f s.is_one ∙ a.puts (s.front ++ s.one) ∙ sym (append_assoc a.front s.front s.one);
  is_other = ap f s.is_other ∙ a.puts (s.front ++ s.other) ∙ sym (append_assoc a.front s.front s.other);
  one_stops = s.one_stops;
  other_stops = s.other_stops;
}

-- the words

-- a byte in front of the first word
abbrev led : ℕ → List (List ℕ) → List (List ℕ)
led c [] = []
led c (w ∷ ws) = (c ∷ w) ∷ ws

words_onto : (c : ℕ) (p : List (List ℕ) × List ℕ) → (onto c p).0 ++ ((onto c p).1 ∷ []) ≡ led c (p.0 ++ (p.1 ∷ []))
words_onto c ([], tail) = refl
words_onto c (l ∷ ls, tail) = refl

words_space : (c : ℕ) (l : List ℕ) → eqb c 32 ≡ true → words_of (c ∷ l) ≡ [] ∷ words_of l
words_space c l h = ap (λ p. p.0 ++ (p.1 ∷ [])) (cond-true (eqb c 32) ([] ∷ (cut_at 32 l).0, (cut_at 32 l).1) (onto c (cut_at 32 l)) h)

words_byte : (c : ℕ) (l : List ℕ) → eqb c 32 ≡ false → words_of (c ∷ l) ≡ led c (words_of l)
words_byte c l h =
    ap (λ p. p.0 ++ (p.1 ∷ [])) (cond-false (eqb c 32) ([] ∷ (cut_at 32 l).0, (cut_at 32 l).1) (onto c (cut_at 32 l)) h)
    ∙ words_onto c (cut_at 32 l)

take_led : (k c : ℕ) (ws : List (List ℕ)) → take k (led c ws) ≡ led c (take k ws)
take_led zero c ws = refl
take_led (suc k) c [] = refl
take_led (suc k) c (w ∷ ws) = refl

length_led : (c : ℕ) (ws : List (List ℕ)) → length (led c ws) ≡ length ws
length_led c [] = refl
length_led c (w ∷ ws) = refl

first_word : (r : List ℕ) → stop r ≡ true → (take 1 (words_of r) ≡ [] ∷ []) × (1 ≤ length (words_of r))
first_word [] h = (refl, omega arith)
first_word (c ∷ r) h = let e = words_space c r h in (ap (take 1) e, let n = ap length e in omega (arith, n))

-- so many words of a front and what follows it
pub words_in : (front r s : List ℕ) → stop r ≡ true → stop s ≡ true → (take (suc (spaces front)) (words_of (front ++ r)) ≡ take (suc (spaces front)) (words_of (front ++ s))) × (suc (spaces front) ≤ length (words_of (front ++ r)))
words_in [] r s h g = let a = first_word r h in (a.0 ∙ sym (first_word s g).0, a.1)
words_in (c ∷ front) r s h g = go (eqb c 32) refl (words_in front r s h g)
  where
    go : (b : Bool) → eqb c 32 ≡ b → (take (suc (spaces front)) (words_of (front ++ r)) ≡ take (suc (spaces front)) (words_of (front ++ s))) × (suc (spaces front) ≤ length (words_of (front ++ r))) → (take (suc (cond b (suc (spaces front)) (spaces front))) (words_of (c ∷ (front ++ r))) ≡ take (suc (cond b (suc (spaces front)) (spaces front))) (words_of (c ∷ (front ++ s)))) × (suc (cond b (suc (spaces front)) (spaces front)) ≤ length (words_of (c ∷ (front ++ r))))
    go true e ih =
        let x = words_space c (front ++ r) e in
        let y = words_space c (front ++ s) e in
        let n = ap length x in
        let m = ih.1 in
        (ap (take (suc (suc (spaces front)))) x ∙ ap (λ ws. [] ∷ ws) ih.0 ∙ sym (ap (take (suc (suc (spaces front)))) y), omega (arith, n, m))
    go false e ih =
        let x = words_byte c (front ++ r) e in
        let y = words_byte c (front ++ s) e in
        let k = suc (spaces front) in
        let n : length (words_of (c ∷ (front ++ r))) ≡ length (words_of (front ++ r)) = ap length x ∙ length_led c (words_of (front ++ r)) in
        let m = ih.1 in (
          ap (take k) x ∙ take_led k c (words_of (front ++ r)) ∙ ap (led c) ih.0 ∙ sym (take_led k c (words_of (front ++ s))) ∙ sym (ap (take k) y),
          omega (arith, n, m),
        )
