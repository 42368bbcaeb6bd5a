-- The laws of a station's word. Assumes nothing.
use Rattle.std.proofs.Common.{◌≡◌, ℕ, zero, suc, ◌+◌, ◌*◌, ◌/◌, ◌%◌, ◌<◌, ◌≤◌, Bool, true, false, cond, eqb, List, [], ◌∷◌, ◌++◌, length, Some, None, Ok, Err, codes, Option, Result, sym, refl, ap, ◌∙◌, subst, ⊎_elim, append_assoc, append-nil, arith}
use Rattle.std.specs.Char.{digit_char}
use Rattle.std.proofs.lemmas.Bool.{cond-true, cond-false, ne_eqb}
use Rattle.std.proofs.lemmas.Bool.Decides.{nat_tests}
use Rattle.packet.specs.declared.kinds.Station.{Station}
use Rattle.policy_words.specs.declared.causes.Cause.{Cause}
use Rattle.policy_words.specs.declared.causes.Cause.TheVariants.{Form}
use Rattle.policy_words.specs.Words.{then, choice, stop, lit, gap}
use Rattle.policy_words.specs.Addresses.{hex_digit, hex_byte, pairs_of, one_station, station_of}
use Rattle.policy_words.specs.Texts.{pairs_text, station_text, Bytes, StationOk}
use Rattle.policy_words.specs.Laws.{Word}
use Rattle.policy_words.proofs.Readings.{then_ok, cond_ok, same_ok, choice_ok, lit_back, lit_forth, gap_back, Wrote}

digit_back : (c d : ℕ) → hex_digit c ≡ Ok d → (d < 16) × (digit_char d ≡ c)
digit_back c d h = (grind (arith, nat_tests), grind (arith, nat_tests))

digit_forth : (d : ℕ) → d < 16 → hex_digit (digit_char d) ≡ Ok d
digit_forth d h = grind (arith, nat_tests)

char_low : (d : ℕ) → d < 16 → digit_char d ≤ 102
char_low d h = grind (arith, nat_tests)

-- a byte

byte_back : (t : List ℕ) (p : ℕ × List ℕ) → hex_byte t ≡ Ok p → (t ≡ pairs_text (p.0 ∷ []) p.1) × (p.0 < 256)
byte_back [] p h = cc
byte_back (c ∷ []) p h = cc
byte_back (c ∷ (d ∷ t)) p h =
    let a = then_ok (hex_digit c) _ p h in
    let la = digit_back c a.0 a.1 in
    let b = then_ok (hex_digit d) _ p a.2 in
    let lb = digit_back d b.0 b.1 in
    let high = la.0 in
    let low = lb.0 in
    let quot : a.0 ≡ (16 * a.0 + b.0) / 16 = omega arith in
    let rem : b.0 ≡ (16 * a.0 + b.0) % 16 = omega arith in
    subst (λ (q : ℕ × List ℕ). (c ∷ (d ∷ t) ≡ pairs_text (q.0 ∷ []) q.1) × (q.0 < 256)) (same_ok b.2)
    ((λ i. (sym la.1 ∙ ap digit_char quot) i ∷ (sym lb.1 ∙ ap digit_char rem) i ∷ t), omega arith)

byte_forth : (b : ℕ) (t : List ℕ) → b < 256 → hex_byte (pairs_text (b ∷ []) t) ≡ Ok (b, t)
byte_forth b t h =
    let high : b / 16 < 16 = omega arith in
    let low : b % 16 < 16 = omega arith in
    let same : 16 * (b / 16) + b % 16 ≡ b = omega arith in
    ap (λ r. then r (λ x. then (hex_digit (digit_char (b % 16))) (λ y. Ok (16 * x + y, t)))) (digit_forth (b / 16) high)
    ∙ ap (λ r. then r (λ y. Ok (16 * (b / 16) + y, t))) (digit_forth (b % 16) low)
    ∙ (λ i. Ok (same i, t))

-- so many bytes

record Paired (k : ℕ) (bs t : List ℕ) (p : List ℕ × List ℕ) : Type 0 where
  more : List ℕ
  all : p.0 ≡ bs ++ more
  written : t ≡ pairs_text more p.1
  long : length more ≡ k
  bytes : Bytes more
  ends : stop p.1 ≡ true

pairs_back : (k : ℕ) (bs t : List ℕ) (p : List ℕ × List ℕ) → pairs_of k bs t ≡ Ok p → Paired k bs t p
pairs_back zero bs t p h =
    let q = cond_ok (stop t) (Ok (bs, t)) Form p h in
    let none : Paired zero bs t (bs, t) = record { more = []; all = sym (append-nil bs); written = refl; long = refl; bytes = tt; ends = q.0 } in
    subst (Paired zero bs t) (same_ok q.1) none
pairs_back (suc k) bs t p h =
    let a = then_ok (hex_byte t) _ p h in
    let la = byte_back t a.0 a.1 in
    let b = a.0.0 in
    let ih = pairs_back k (bs ++ b ∷ []) a.0.1 p a.2 in
    record {
      more = b ∷ ih.more;
      all = ih.all ∙ append_assoc bs (b ∷ []) ih.more;
      written = la.0 ∙ ap (pairs_text (b ∷ [])) ih.written;
      long = ap suc ih.long;
      bytes = (la.1, ih.bytes);
      ends = ih.ends;
    }

pairs_forth : (cs bs t : List ℕ) → Bytes cs → stop t ≡ true → pairs_of (length cs) bs (pairs_text cs t) ≡ Ok (bs ++ cs, t)
pairs_forth [] bs t ok h = cond-true (stop t) _ _ h ∙ (λ i. Ok (sym (append-nil bs) i, t))
pairs_forth (c ∷ cs) bs t ok h =
    ap (λ r. then r (λ p. pairs_of (length cs) (bs ++ p.0 ∷ []) p.1)) (byte_forth c (pairs_text cs t) ok.0)
    ∙ pairs_forth cs (bs ++ c ∷ []) t ok.1 h ∙ (λ i. Ok (append_assoc bs (c ∷ []) cs i, t))

-- the word

-- two digits do not begin the word any
pub not_any : (c d : ℕ) (t : List ℕ) → d ≤ 102 → lit (codes " any") (32 ∷ c ∷ d ∷ t) ≡ Err Form
not_any c d t h = go (eqb c 97) refl
  where
    go : (b : Bool) → eqb c 97 ≡ b → cond b (lit (codes "ny") (d ∷ t)) (Err Form) ≡ Err Form
    go true e = cond-false (eqb d 110) _ _ (ne_eqb d 110 (λ z. omega arith))
    go false e = refl

pairs_not_any : (bs t : List ℕ) → length bs ≡ 6 → lit (codes " any") (32 ∷ pairs_text bs t) ≡ Err Form
pairs_not_any [] t h = absurd (omega arith)
pairs_not_any (b ∷ bs) t h = not_any (digit_char (b / 16)) (digit_char (b % 16)) (pairs_text bs t) (char_low (b % 16) (omega arith))

station_back : (t : List ℕ) (p : Option Station × List ℕ) → station_of t ≡ Ok p → Wrote station_text StationOk t p
unfolding station_of station_text
station_back t p h =
    ⊎_elim
    (λ (x : (u : List ℕ) × (lit (codes " any") t ≡ Ok u) × (◌≡◌ {A = Result (Option Station × List ℕ) Cause} (Ok (None, u)) (Ok p))).
    let l = lit_back (codes " any") t x.0 x.1 in
    subst (Wrote station_text StationOk t) (same_ok x.2) (l.0, tt, l.1))
    (λ g.
    let a = then_ok (gap t) (λ u. then (pairs_of 6 [] u) one_station) p g in
    let b = then_ok (pairs_of 6 [] a.0) one_station p a.2 in
    let l = pairs_back 6 [] a.0 b.0 b.1 in
    let all : l.more ≡ b.0.0 = sym l.all in
    let same : (Some (record { source = l.more }), b.0.1) ≡ p = (λ i. (Some (record { source = all i }), b.0.1)) ∙ same_ok b.2 in
    subst (Wrote station_text StationOk t) same (gap_back t a.0 a.1 ∙ ap (λ l. 32 ∷ l) l.written, (l.long, l.bytes), l.ends))
    (choice_ok (lit (codes " any") t) (λ u. Ok (None, u)) _ p h)

station_forth : (s : Option Station) (t : List ℕ) → StationOk s → stop t ≡ true → station_of (station_text s t) ≡ Ok (s, t)
unfolding station_of station_text
station_forth None t ok h =
    ap (λ r. choice r (λ u. Ok (None, u)) (then (gap (codes " any" ++ t)) (λ u. then (pairs_of 6 [] u) one_station))) (lit_forth (codes " any") t h)
station_forth (Some s) t ok h =
    let bs = s.source in
    ap (λ r. choice r (λ u. Ok (None, u)) (then (pairs_of 6 [] (pairs_text bs t)) one_station)) (pairs_not_any bs t ok.0)
    ∙ ap (λ r. then r one_station) (ap (λ k. pairs_of k [] (pairs_text bs t)) (sym ok.0) ∙ pairs_forth bs [] t ok.1 h)

pub station_word : Word station_of station_text StationOk
station_word = record { back = λ t s rest h. station_back t (s, rest) h; forth = station_forth }

pub station_stop : (s : Option Station) (t : List ℕ) → stop (station_text s t) ≡ true
unfolding station_text
station_stop None t = refl
station_stop (Some s) t = refl
