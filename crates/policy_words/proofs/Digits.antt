-- The laws of a number's text: what is read is what `decimal` writes, and what it writes is read. Assumes nothing.
use Rattle.std.proofs.Common.{◌≡◌, ℕ, suc, ◌+◌, ◌^◌, ◌<◌, ◌≤◌, Bool, true, false, cond, not, ◌&&◌, eqb, ltb, List, [], ◌∷◌, ◌++◌, length, get_or, take, drop, Some, None, Ok, Err, unwrap_or, position, decimal, sym, refl, ap, ◌∙◌, subst, ⊎_elim, arith, rules}
use Rattle.std.specs.Char.{is_ascii_digit}
use Rattle.std.specs.List.{position_or_len}
use Rattle.std.specs.Str.{all_ascii_digits}
use Rattle.std.proofs.lemmas.List.Sums.{prefix_len-le-length}
use Rattle.std.proofs.lemmas.List.Recursion.{is_position_or_len}
use Rattle.std.proofs.lemmas.Str.Parse.{IsNumeralModel, numerals_by_fold, digits_value_short}
use Rattle.std.proofs.lemmas.Fmt.{digits_decimal, digits_value-decimal, decimal-digits_value, length-decimal-le, decimal_nonempty, first_decimal, decimal_digit}
use Rattle.std.proofs.lemmas.List.{take_at, drop_at, take-append-drop, length-take-le, get_or-take, get_or_append_left}
use Rattle.std.proofs.lemmas.Bool.{cases_Bool, cases_lt, cond-true, cond-false, and_parts, and_from, and_left, and_right, eqb-true, eqb-false, ltb-false, ne_eqb, le-ltb}
use Rattle.policy_words.specs.declared.numbers.NumberFault.TheVariants.{NoDigit, TooLong, LeadingZero}
use Rattle.policy_words.specs.Numbers.{digit_run, read_on, number_by, number_of, Undigited}

pub own : IsNumeralModel (λ ds. all_ascii_digits ds ≡ true) (read_on 0)
own = numerals_by_fold _ (search rules) read_on (search rules)

-- the first place that passes, or the end
pub place_or_end : (p : ℕ → Bool) (t : List ℕ) → unwrap_or (position p t) (length t) ≡ position_or_len p t
place_or_end p t = go (ltb (position_or_len p t) (length t)) refl
  where
    go : (b : Bool) → ltb (position_or_len p t) (length t) ≡ b → unwrap_or (cond b (Some (position_or_len p t)) None) (length t) ≡ position_or_len p t
    go true e = refl
    go false e =
        let h : position_or_len p t ≤ length t = prefix_len-le-length (λ b. not (p b)) t in
        let k = ltb-false (position_or_len p t) (length t) e in
        omega arith

-- the run ends at the first byte that is no digit
pub run_place : (t : List ℕ) → unwrap_or (position (λ b. not (is_ascii_digit b)) t) (length t) ≡ digit_run t
run_place t =
    place_or_end (λ b. not (is_ascii_digit b)) t
    ∙ sym (is_position_or_len digit_run (λ b. not (is_ascii_digit b)) refl (λ c cs. turned (is_ascii_digit c) (digit_run cs)) t)
  where
    turned : (b : Bool) (k : ℕ) → cond b (suc k) 0 ≡ cond (not b) 0 (1 + k)
    turned true k = omega arith
    turned false k = refl

pub run_fits : (t : List ℕ) → digit_run t ≤ length t
run_fits [] = omega arith
run_fits (c ∷ cs) = let h = run_fits cs in
    elim (is_ascii_digit c) as (λ b. cond b (suc (digit_run cs)) 0 ≤ suc (length cs)) [ true ↦ omega arith | false ↦ omega arith ]

-- the run is digits, and a text that is no digit's follows it
pub run_digits : (t : List ℕ) → all_ascii_digits (take (digit_run t) t) ≡ true
run_digits [] = refl
run_digits (c ∷ cs) = go (is_ascii_digit c) refl (run_digits cs)
  where
    go : (b : Bool) → is_ascii_digit c ≡ b → all_ascii_digits (take (digit_run cs) cs) ≡ true → all_ascii_digits (take (cond b (suc (digit_run cs)) 0) (c ∷ cs)) ≡ true
    go true e h = and_from (is_ascii_digit c) (all_ascii_digits (take (digit_run cs) cs)) e h
    go false e h = refl

run_stops : (t : List ℕ) → Undigited (drop (digit_run t) t)
run_stops [] = refl
run_stops (c ∷ cs) = go (is_ascii_digit c) refl (run_stops cs)
  where
    go : (b : Bool) → is_ascii_digit c ≡ b → Undigited (drop (digit_run cs) cs) → digit_run (drop (cond b (suc (digit_run cs)) 0) (c ∷ cs)) ≡ 0
    go true e h = h
    go false e h = cond-false (is_ascii_digit c) (suc (digit_run cs)) 0 e

run_append : (ds rest : List ℕ) → all_ascii_digits ds ≡ true → Undigited rest → digit_run (ds ++ rest) ≡ length ds
run_append [] rest p u = u
run_append (d ∷ ds) rest p u =
    let q = and_parts (is_ascii_digit d) (all_ascii_digits ds) p in
    cond-true (is_ascii_digit d) (suc (digit_run (ds ++ rest))) 0 q.0 ∙ ap suc (run_append ds rest q.1 u)

-- what `number_of` asks of the run before it answers
pub record Plain (n : ℕ) (t : List ℕ) : Type 0 where
  pub some : 0 < n
  pub short : n ≤ 13
  pub led : (get_or t 0 0 ≡ 48) → n ≡ 1

number_by_plain : (n : ℕ) (t : List ℕ) → Plain n t → number_by n t ≡ Ok (read_on 0 (take n t), drop n t)
number_by_plain n t p =
    let some = p.some in
    let short = p.short in
    let led : (eqb (get_or t 0 0) 48 && ltb 1 n) ≡ false =
    ⊎_elim (λ (e : eqb (get_or t 0 0) 48 ≡ true). and_right _ _ (le-ltb 1 n (omega (arith, p.led (eqb-true _ _ e)))))
    (λ e. and_left _ _ e) (cases_Bool (eqb (get_or t 0 0) 48)) in
    cond-false _ _ _ (ne_eqb n 0 (omega arith)) ∙ cond-false _ _ _ (le-ltb 13 n (omega arith)) ∙ cond-false _ _ _ led

pub plain_from : (n : ℕ) (t : List ℕ) (p : ℕ × List ℕ) → number_by n t ≡ Ok p → Plain n t × (p ≡ (read_on 0 (take n t), drop n t))
plain_from n t p h = go (eqb n 0) refl (ltb 13 n) refl (eqb (get_or t 0 0) 48) refl (ltb 1 n) refl h
  where
    go : (a : Bool) → eqb n 0 ≡ a → (b : Bool) → ltb 13 n ≡ b → (x : Bool) → eqb (get_or t 0 0) 48 ≡ x → (y : Bool) → ltb 1 n ≡ y
        → cond a (Err NoDigit) (cond b (Err TooLong) (cond (x && y) (Err LeadingZero) (Ok (read_on 0 (take n t), drop n t)))) ≡ Ok p
        → Plain n t × (p ≡ (read_on 0 (take n t), drop n t))
    go true ea b eb x ex y ey h = grind arith
    go false ea true eb x ex y ey h = grind arith
    go false ea false eb true ex true ey h = grind arith
    go false ea false eb true ex false ey h = let k = ltb-false 1 n ey in let j = eqb-false n 0 ea in let m = ltb-false 13 n eb in
        (record { some = grind arith; short = m; led = λ _. grind arith }, grind arith)
    go false ea false eb false ex y ey h = let j = eqb-false n 0 ea in let m = ltb-false 13 n eb in
        (record { some = grind arith; short = m; led = λ e. absurd (eqb-false _ _ ex e) }, grind arith)

-- what is read is written so
pub number_back : (t : List ℕ) (v : ℕ) (rest : List ℕ) → number_of t ≡ Ok (v, rest) → (t ≡ decimal v ++ rest) × Undigited rest × (v < 10 ^ 13)
number_back t v rest h =
    let q = plain_from (digit_run t) t (v, rest) h in
    let n = digit_run t in
    let fits = run_fits t in
    let digits = run_digits t in
    let some = q.0.some in
    let short = q.0.short in
    let long : length (take n t) ≡ n = length-take-le n t fits in
    let small : read_on 0 (take n t) < 10 ^ 13 = digits_value_short own (take n t) 13 digits (omega arith) in
    let isv : v ≡ read_on 0 (take n t) = ap (λ (p : ℕ × List ℕ). p.0) q.1 in
    let isr : rest ≡ drop n t = ap (λ (p : ℕ × List ℕ). p.1) q.1 in
    let same : decimal (read_on 0 (take n t)) ≡ take n t = decimal-digits_value own (take n t) digits (omega arith) (λ e. long ∙ q.0.led (sym (get_or-take n t 0 0 some) ∙ e)) (omega arith) in
    (sym (take-append-drop n t) ∙ cc, subst Undigited (sym isr) (run_stops t), subst (λ x. x < 10 ^ 13) (sym isv) small)

-- only 0 begins with the digit 0
decimal_led : (v : ℕ) → v < 2 ^ 64 → get_or (decimal v) 0 0 ≡ 48 → length (decimal v) ≡ 1
decimal_led v big e =
    ⊎_elim (λ (h : v < 1). ap length (decimal_digit v (omega arith))) (λ h. absurd (omega (arith, first_decimal v h big))) (cases_lt v 1)

-- what is written is read back
pub number_forth : (v : ℕ) (rest : List ℕ) → v < 10 ^ 13 → Undigited rest → number_of (decimal v ++ rest) ≡ Ok (v, rest)
number_forth v rest small u =
    let big : v < 2 ^ 64 = omega arith in
    let ds = decimal v in
    let run : digit_run (ds ++ rest) ≡ length ds = run_append ds rest (digits_decimal own v big) u in
    let plain : Plain (length ds) (ds ++ rest) = record {
      some = decimal_nonempty v big;
      short = length-decimal-le 13 v (omega arith) small big;
      led = λ e. decimal_led v big (sym (get_or_append_left ds rest 0 0 (decimal_nonempty v big)) ∙ e);
    } in
    ap (λ n. number_by n (ds ++ rest)) run ∙ number_by_plain (length ds) (ds ++ rest) plain
    ∙ (λ i. Ok ((ap (read_on 0) (take_at ds rest (length ds) refl) ∙ digits_value-decimal own v big) i, drop_at ds rest (length ds) refl i))
