-- The laws of the words that choose. Assumes nothing.
use Rattle.std.proofs.Common.{◌≡◌, ℕ, ◌^◌, ◌<◌, ◌≤◌, true, cond, eqb, ltb, List, [], ◌∷◌, ◌++◌, length, Some, None, Ok, Err, codes, decimal, Option, Result, sym, refl, ap, ◌∙◌, subst, ⊎_elim, arith}
use Rattle.std.specs.Char.{is_ascii_digit}
use Rattle.std.specs.Str.{all_ascii_digits}
use Rattle.std.proofs.lemmas.Fmt.{digits_decimal, decimal_nonempty}
use Rattle.std.proofs.lemmas.Bool.{cond-false, and_parts, ne_eqb, ltb-false, le-ltb}
use Rattle.std.proofs.lemmas.Bool.Decides.{nat_tests}
use Rattle.packet.specs.declared.kinds.Class.{Class}
use Rattle.packet.specs.declared.kinds.Class.TheVariants.{One, Two, Three, Four}
use Rattle.packet.specs.Kinds.{class_number, class_of}
use Rattle.meter.specs.declared.measures.Mode.{Mode}
use Rattle.meter.specs.declared.measures.Mode.TheVariants.{Blind, Aware}
use Rattle.policy_words.specs.declared.causes.Cause.{Cause}
use Rattle.policy_words.specs.declared.causes.Cause.TheVariants.{Form}
use Rattle.policy_words.specs.Words.{then, choice, stop, lit, field}
use Rattle.policy_words.specs.Choices.{protocol_of, as_class, class_word_of, mode_of}
use Rattle.policy_words.specs.Texts.{word_on, protocol_text, ProtocolOk, class_text, mode_text}
use Rattle.policy_words.specs.Laws.{Word, always}
use Rattle.policy_words.proofs.Digits.{own}
use Rattle.policy_words.proofs.Readings.{then_ok, ok_cond, same_ok, choice_ok, lit_back, lit_forth, number_word, Wrote}

-- the protocol

-- a number does not begin as the word any
pub number_not_any : (v : ℕ) (t : List ℕ) → v < 10 ^ 13 → lit (codes " any") (word_on v t) ≡ Err Form
number_not_any v t h =
    let big : v < 2 ^ 64 = omega arith in
    led (decimal v) (digits_decimal own v big) (decimal_nonempty v big)
  where
    low : (d : ℕ) → is_ascii_digit d ≡ true → d ≡ 97 → ⊥
    low d e z = grind (arith, nat_tests)

    led : (ds : List ℕ) → all_ascii_digits ds ≡ true → 0 < length ds → lit (codes " any") (32 ∷ (ds ++ t)) ≡ Err Form
    led [] p some = absurd (omega arith)
    led (d ∷ ds) p some = cond-false (eqb d 97) _ _ (ne_eqb d 97 (low d (and_parts (is_ascii_digit d) (all_ascii_digits ds) p).0))

-- a protocol that is a number
abbrev small : ℕ × List ℕ → Result (Option ℕ × List ℕ) Cause
small p = cond (ltb 255 p.0) (Err Form) (Ok (Some p.0, p.1))

protocol_back : (t : List ℕ) (p : Option ℕ × List ℕ) → protocol_of t ≡ Ok p → Wrote protocol_text ProtocolOk t p
unfolding protocol_of protocol_text
protocol_back t p h =
    ⊎_elim
    (λ (x : (u : List ℕ) × (lit (codes " any") t ≡ Ok u) × (◌≡◌ {A = Result (Option ℕ × List ℕ) Cause} (Ok (None, u)) (Ok p))).
    let l = lit_back (codes " any") t x.0 x.1 in
    subst (Wrote protocol_text ProtocolOk t) (same_ok x.2) (l.0, tt, l.1))
    (λ g.
    let a = then_ok (field t) small p g in
    let l = number_word.back t a.0.0 a.0.1 a.1 in
    let c = ok_cond (ltb 255 a.0.0) (Ok (Some a.0.0, a.0.1)) Form p a.2 in
    subst (Wrote protocol_text ProtocolOk t) (same_ok c.1) (l.0, ltb-false 255 a.0.0 c.0, l.2))
    (choice_ok (lit (codes " any") t) (λ u. Ok (None, u)) _ p h)

protocol_forth : (n : Option ℕ) (t : List ℕ) → ProtocolOk n → stop t ≡ true → protocol_of (protocol_text n t) ≡ Ok (n, t)
unfolding protocol_of protocol_text
protocol_forth None t ok h = ap (λ r. choice r (λ u. Ok (None, u)) (then (field (codes " any" ++ t)) small)) (lit_forth (codes " any") t h)
protocol_forth (Some n) t ok h =
    let low : n ≤ 255 = ok in
    let few : n < 10 ^ 13 = omega arith in
    ap (λ r. choice r (λ u. Ok (None, u)) (then (field (word_on n t)) small)) (number_not_any n t few)
    ∙ ap (λ r. then r small) (number_word.forth n t few h) ∙ cond-false (ltb 255 n) _ _ (le-ltb 255 n ok)

pub protocol_word : Word protocol_of protocol_text ProtocolOk
protocol_word = record { back = λ t n rest h. protocol_back t (n, rest) h; forth = protocol_forth }

pub protocol_stop : (n : Option ℕ) (t : List ℕ) → stop (protocol_text n t) ≡ true
unfolding protocol_text
protocol_stop None t = refl
protocol_stop (Some n) t = refl

-- the class

class_number_lem : (n : ℕ) (c : Class) → class_of n ≡ Some c → n ≡ class_number c
class_number_lem n c h = grind (arith, nat_tests)

number_class : (c : Class) → class_of (class_number c) ≡ Some c
number_class One = refl
number_class Two = refl
number_class Three = refl
number_class Four = refl

as_class_back : (o : Option Class) (t : List ℕ) (p : Class × List ℕ) → as_class o t ≡ Ok p → (o ≡ Some p.0) × (t ≡ p.1)
as_class_back (Some c) t p h = let s : (c, t) ≡ p = same_ok h in ((λ i. Some (s i).0), (λ i. (s i).1))
as_class_back None t p h = cc

class_back : (t : List ℕ) (p : Class × List ℕ) → class_word_of t ≡ Ok p → Wrote class_text always t p
unfolding class_word_of class_text
class_back t p h =
    let a = then_ok (field t) (λ p. as_class (class_of p.0) p.1) p h in
    let l = number_word.back t a.0.0 a.0.1 a.1 in
    let o = as_class_back (class_of a.0.0) a.0.1 p a.2 in
    let n = class_number_lem a.0.0 p.0 o.0 in
    (l.0 ∙ (λ i. word_on (n i) (o.1 i)), tt, ap stop (sym o.1) ∙ l.2)

class_forth : (c : Class) (t : List ℕ) → always c → stop t ≡ true → class_word_of (class_text c t) ≡ Ok (c, t)
unfolding class_word_of class_text
class_forth c t ok h =
    ap (λ r. then r (λ p. as_class (class_of p.0) p.1)) (number_word.forth (class_number c) t (class_few c) h)
    ∙ ap (λ o. as_class o t) (number_class c)
  where
    class_few : (c : Class) → class_number c < 10 ^ 13
    class_few One = omega arith
    class_few Two = omega arith
    class_few Three = omega arith
    class_few Four = omega arith

pub class_word : Word class_word_of class_text always
class_word = record { back = λ t c rest h. class_back t (c, rest) h; forth = class_forth }

pub class_stop : (c : Class) (t : List ℕ) → stop (class_text c t) ≡ true
unfolding class_text
class_stop c t = refl

-- the mode

mode_back : (t : List ℕ) (p : Mode × List ℕ) → mode_of t ≡ Ok p → Wrote mode_text always t p
unfolding mode_text
mode_back t p h =
    ⊎_elim
    (λ (x : (u : List ℕ) × (lit (codes " blind") t ≡ Ok u) × (◌≡◌ {A = Result (Mode × List ℕ) Cause} (Ok (Blind, u)) (Ok p))).
    let l = lit_back (codes " blind") t x.0 x.1 in
    subst (Wrote mode_text always t) (same_ok x.2) (l.0, tt, l.1))
    (λ g.
    let a = then_ok (lit (codes " aware") t) (λ u. Ok (Aware, u)) p g in
    let l = lit_back (codes " aware") t a.0 a.1 in
    subst (Wrote mode_text always t) (same_ok a.2) (l.0, tt, l.1))
    (choice_ok (lit (codes " blind") t) (λ u. Ok (Blind, u)) _ p h)

mode_forth : (m : Mode) (t : List ℕ) → always m → stop t ≡ true → mode_of (mode_text m t) ≡ Ok (m, t)
unfolding mode_text
mode_forth Blind t ok h =
    ap (λ r. choice r (λ u. Ok (Blind, u)) (then (lit (codes " aware") (codes " blind" ++ t)) (λ u. Ok (Aware, u)))) (lit_forth (codes " blind") t h)
mode_forth Aware t ok h = ap (λ r. then r (λ u. Ok (Aware, u))) (lit_forth (codes " aware") t h)

pub mode_word : Word mode_of mode_text always
mode_word = record { back = λ t m rest h. mode_back t (m, rest) h; forth = mode_forth }

pub mode_stop : (m : Mode) (t : List ℕ) → stop (mode_text m t) ≡ true
unfolding mode_text
mode_stop Blind t = refl
mode_stop Aware t = refl
