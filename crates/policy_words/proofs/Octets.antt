-- The laws of a prefix's word. Assumes nothing.
use Rattle.std.proofs.Common.{◌≡◌, ℕ, suc, ◌-◌, ◌/◌, ◌%◌, ◌^◌, ◌<◌, ◌≤◌, Bool, true, false, cond, ◌&&◌, eqb, ltb, leb, List, [], ◌∷◌, ◌++◌, Some, None, Ok, Err, decimal, Option, Result, sym, refl, ap, ◌∙◌, subst, arith}
use Rattle.std.specs.Char.{is_ascii_digit}
use Rattle.std.proofs.lemmas.Bool.{cond-true, cond-false, and_parts, eqb-true, eq-eqb, ltb-false, le-ltb, leb-true}
use Rattle.packet.specs.declared.kinds.Address.{Address}
use Rattle.policy.specs.declared.rules.Prefix.{Prefix}
use Rattle.policy.specs.Rules.{prefix, prefix_of}
use Rattle.policy_words.specs.declared.causes.Cause.{Cause}
use Rattle.policy_words.specs.declared.causes.Cause.TheVariants.{Form}
use Rattle.policy_words.specs.Numbers.{number_of, digit_run, Undigited}
use Rattle.policy_words.specs.Words.{then, stop, gap, formed}
use Rattle.policy_words.specs.Addresses.{octet_of, marked, part_of, value_of, octets_of, as_prefix, prefix_word_of}
use Rattle.policy_words.specs.Texts.{part_text, octets_text, prefix_text, PrefixOk}
use Rattle.policy_words.specs.Laws.{Word}
use Rattle.policy_words.proofs.Digits.{number_back, number_forth}
use Rattle.policy_words.proofs.Readings.{then_ok, cond_ok, ok_cond, same_ok, formed_ok, gap_back, stop_undigited, Wrote}

octet_back : (t : List ℕ) (p : ℕ × List ℕ) → octet_of t ≡ Ok p → (t ≡ decimal p.0 ++ p.1) × (p.0 ≤ 255)
unfolding octet_of
octet_back t p h =
    let a = then_ok (formed (number_of t)) _ p h in
    let n = number_back t a.0.0 a.0.1 (formed_ok (number_of t) a.0 a.1) in
    let c = ok_cond (ltb 255 a.0.0) (Ok a.0) Form p a.2 in
    subst (λ (q : ℕ × List ℕ). (t ≡ decimal q.0 ++ q.1) × (q.0 ≤ 255)) (same_ok c.1) (n.0, ltb-false 255 a.0.0 c.0)

octet_forth : (v : ℕ) (t : List ℕ) → Undigited t → v ≤ 255 → octet_of (decimal v ++ t) ≡ Ok (v, t)
unfolding octet_of
octet_forth v t u h =
    ap (λ r. then (formed r) (λ p. cond (ltb 255 p.0) (Err Form) (Ok p))) (number_forth v t (omega arith) u)
    ∙ cond-false (ltb 255 v) _ _ (le-ltb 255 v h)

marked_back : (b v : ℕ) (t : List ℕ) (p : ℕ × List ℕ) → marked b v t ≡ Ok p → (v ≡ p.0) × (t ≡ b ∷ p.1)
marked_back b v [] p h = cc
marked_back b v (c ∷ cs) p h =
    let q = cond_ok (eqb c b) (Ok (v, cs)) Form p h in
    let e = eqb-true c b q.0 in
    let s : (v, cs) ≡ p = same_ok q.1 in
    (ap (λ (x : ℕ × List ℕ). x.0) s, (λ i. e i ∷ (s i).1))

part_back : (b : ℕ) (t : List ℕ) (p : ℕ × List ℕ) → part_of b t ≡ Ok p → (t ≡ part_text p.0 b p.1) × (p.0 ≤ 255)
unfolding part_of
part_back b t p h =
    let a = then_ok (octet_of t) _ p h in
    let n = octet_back t a.0 a.1 in
    let m = marked_back b a.0.0 a.0.1 p a.2 in
    (n.0 ∙ (λ i. decimal (m.0 i) ++ m.1 i), omega (arith, n.1, m.0))

part_forth : (b v : ℕ) (t : List ℕ) → is_ascii_digit b ≡ false → v ≤ 255 → part_of b (part_text v b t) ≡ Ok (v, t)
unfolding part_of
part_forth b v t nb h =
    ap (λ r. then r (λ p. marked b p.0 p.1)) (octet_forth v (b ∷ t) (cond-false (is_ascii_digit b) (suc (digit_run t)) 0 nb) h)
    ∙ cond-true (eqb b b) _ _ (eq-eqb b b refl)

-- four bytes are the parts of their number
parts_of : (w x y z : ℕ) (t : List ℕ) → w ≤ 255 → x ≤ 255 → y ≤ 255 → z ≤ 255
    → (part_text w 46 (part_text x 46 (part_text y 46 (part_text z 47 t))) ≡ octets_text (value_of w x y z) t) × (value_of w x y z < 2 ^ 32)
parts_of w x y z t hw hx hy hz =
    let ew : w ≡ value_of w x y z / 16777216 = omega arith in
    let ex : x ≡ value_of w x y z / 65536 % 256 = omega arith in
    let ey : y ≡ value_of w x y z / 256 % 256 = omega arith in
    let ez : z ≡ value_of w x y z % 256 = omega arith in
    ((λ i. part_text (ew i) 46 (part_text (ex i) 46 (part_text (ey i) 46 (part_text (ez i) 47 t)))), omega arith)

abbrev Addressed : List ℕ → Address × List ℕ → Type 0
Addressed t p = (t ≡ octets_text p.0.0 p.1) × (p.0.0 < 2 ^ 32)

octets_back : (t : List ℕ) (p : Address × List ℕ) → octets_of t ≡ Ok p → Addressed t p
unfolding octets_of
octets_back t p h =
    let a = then_ok (part_of 46 t) _ p h in
    let la = part_back 46 t a.0 a.1 in
    let b = then_ok (part_of 46 a.0.1) _ p a.2 in
    let lb = part_back 46 a.0.1 b.0 b.1 in
    let c = then_ok (part_of 46 b.0.1) _ p b.2 in
    let lc = part_back 46 b.0.1 c.0 c.1 in
    let d = then_ok (part_of 47 c.0.1) _ p c.2 in
    let ld = part_back 47 c.0.1 d.0 d.1 in
    let n = parts_of a.0.0 b.0.0 c.0.0 d.0.0 d.0.1 la.1 lb.1 lc.1 ld.1 in
    subst (Addressed t) (same_ok d.2)
    (la.0 ∙ ap (part_text a.0.0 46) (lb.0 ∙ ap (part_text b.0.0 46) (lc.0 ∙ ap (part_text c.0.0 46) ld.0)) ∙ n.0, n.1)

-- what `octets_of` goes on with after each part
abbrev after_three : ℕ → ℕ → ℕ → ℕ × List ℕ → Result (Address × List ℕ) Cause
after_three a b c d = Ok (record { 0 = value_of a b c d.0 }, d.1)

abbrev after_two : ℕ → ℕ → ℕ × List ℕ → Result (Address × List ℕ) Cause
after_two a b c = then (part_of 47 c.1) (after_three a b c.0)

abbrev after_one : ℕ → ℕ × List ℕ → Result (Address × List ℕ) Cause
after_one a b = then (part_of 46 b.1) (after_two a b.0)

octets_forth : (a : Address) (t : List ℕ) → a.0 < 2 ^ 32 → octets_of (octets_text a.0 t) ≡ Ok (a, t)
unfolding octets_of
octets_forth a t h =
    let n = a.0 in
    let small : n < 2 ^ 32 = h in
    let w = n / 16777216 in
    let x = n / 65536 % 256 in
    let y = n / 256 % 256 in
    let z = n % 256 in
    let hw : w ≤ 255 = omega arith in
    let hx : x ≤ 255 = omega arith in
    let hy : y ≤ 255 = omega arith in
    let hz : z ≤ 255 = omega arith in
    let same : value_of w x y z ≡ n = omega arith in
    ap (λ r. then r (λ p. then (part_of 46 p.1) (after_one p.0))) (part_forth 46 w (part_text x 46 (part_text y 46 (part_text z 47 t))) refl hw)
    ∙ ap (λ r. then r (after_one w)) (part_forth 46 x (part_text y 46 (part_text z 47 t)) refl hx)
    ∙ ap (λ r. then r (after_two w x)) (part_forth 46 y (part_text z 47 t) refl hy)
    ∙ ap (λ r. then r (after_three w x y)) (part_forth 47 z t refl hz)
    ∙ (λ i. Ok (record { 0 = same i }, t))

-- a prefix that there is has the address and the length that it was asked for
some_prefix : (b : Bool) (x p : Prefix) → cond b (Some x) None ≡ Some p → (b ≡ true) × (x ≡ p)
some_prefix true x p h = (refl, cc)
some_prefix false x p h = cc

abbrev bitless : Address → ℕ → Bool
bitless a bits = leb bits 32 && eqb (a.0 % 2 ^ (32 - bits)) 0

pub prefix_short : (p : Prefix) → PrefixOk p → p.length ≤ 32
prefix_short p ok =
    let s = some_prefix (bitless p.address p.length) (prefix p.address p.length) p ok.0 in
    leb-true p.length 32 (and_parts _ _ s.0).0

as_prefix_back : (o : Option Prefix) (t : List ℕ) (p : Prefix × List ℕ) → as_prefix o t ≡ Ok p → (o ≡ Some p.0) × (t ≡ p.1) × (stop t ≡ true)
as_prefix_back (Some x) t p h =
    let q = cond_ok (stop t) (Ok (x, t)) Form p h in
    let s : (x, t) ≡ p = same_ok q.1 in
    ((λ i. Some (s i).0), (λ i. (s i).1), q.0)
as_prefix_back None t p h = cc

prefix_back : (t : List ℕ) (p : Prefix × List ℕ) → prefix_word_of t ≡ Ok p → Wrote prefix_text PrefixOk t p
unfolding prefix_word_of prefix_text
prefix_back t p h =
    let u = then_ok (gap t) _ p h in
    let a = then_ok (octets_of u.0) _ p u.2 in
    let la = octets_back u.0 a.0 a.1 in
    let n = then_ok (octet_of a.0.1) _ p a.2 in
    let ln = octet_back a.0.1 n.0 n.1 in
    let o = as_prefix_back (prefix_of a.0.0 n.0.0) n.0.1 p n.2 in
    let s = some_prefix (bitless a.0.0 n.0.0) (prefix a.0.0 n.0.0) p.0 o.0 in
    let same : (prefix a.0.0 n.0.0, n.0.1) ≡ p = λ i. (s.1 i, o.1 i) in
    subst (Wrote prefix_text PrefixOk t) same (
      gap_back t u.0 u.1 ∙ ap (λ l. 32 ∷ l) (la.0 ∙ ap (octets_text a.0.0.0) ln.0),
      (o.0 ∙ ap Some (sym s.1), la.1),
      o.2,
    )

prefix_forth : (p : Prefix) (t : List ℕ) → PrefixOk p → stop t ≡ true → prefix_word_of (prefix_text p t) ≡ Ok (p, t)
unfolding prefix_word_of prefix_text
prefix_forth p t ok h =
    let short = prefix_short p ok in
    ap (λ r. then r (λ a. then (octet_of a.1) (λ n. as_prefix (prefix_of a.0 n.0) n.1))) (octets_forth p.address (decimal p.length ++ t) ok.1)
    ∙ ap (λ r. then r (λ n. as_prefix (prefix_of p.address n.0) n.1)) (octet_forth p.length t (stop_undigited t h) (omega arith))
    ∙ ap (λ o. as_prefix o t) ok.0 ∙ cond-true (stop t) _ _ h

pub prefix_word : Word prefix_word_of prefix_text PrefixOk
prefix_word = record { back = λ t p rest h. prefix_back t (p, rest) h; forth = prefix_forth }

pub prefix_stop : (p : Prefix) (t : List ℕ) → stop (prefix_text p t) ≡ true
unfolding prefix_text
prefix_stop p t = refl
