-- A word as a number, by what `parse` reads.
use Rattle.std.proofs.Common.{◌≡◌, ℕ, ◌^◌, ◌<◌, Bool, true, false, cond, ◌&&◌, ltb, List, length, get_or, Some, None, Ok, Err, IsUtf8, Result, sym, refl, ap, ◌∙◌, arith, rules, ltb-true, lt-ltb}
use Rattle.std.proofs.lemmas.Fmt.{IsAscii-from_digits}
use Rattle.std.proofs.lemmas.Str.Parse.{IsNumeralModel, numerals_by_fold, not_in_digits}
use Rattle.std.proofs.lemmas.Bool.{cond-true, and_from, and_parts}
use Rattle.std.proofs.lemmas.Str.{IsUtf8-from_ascii}
use Rattle.std.specs.Result.{OkIff, result_ok}
use Rattle.std.specs.Str.{all_ascii_digits}
use Rattle.colour.specs.Words.{value_on, value, numeral}

pub own : IsNumeralModel (λ ds. all_ascii_digits ds ≡ true) value
own = numerals_by_fold _ (search rules) value_on (search rules)

numeral_at : (w : List ℕ) → all_ascii_digits w ≡ true → 0 < length w → value w < 2 ^ 64 → numeral w ≡ Some (value w)
unfolding numeral
numeral_at w d l v =
    cond-true _ (Some (value w)) None (and_from (all_ascii_digits w) _ d (and_from (ltb 0 (length w)) _ (lt-ltb 0 (length w) l) (lt-ltb (value w) (2 ^ 64) v)))

numeral_else : (w : List ℕ) → (all_ascii_digits w ≡ true → 0 < length w → value w < 2 ^ 64 → ⊥) → numeral w ≡ None
unfolding numeral
numeral_else w never = go _ refl
  where
    go : (b : Bool) → (all_ascii_digits w && (ltb 0 (length w) && ltb (value w) (2 ^ 64))) ≡ b → cond b (Some (value w)) None ≡ None
    go true e =
        let p = and_parts (all_ascii_digits w) _ e in
        let q = and_parts (ltb 0 (length w)) _ p.1 in
        absurd (never p.0 (ltb-true 0 (length w) q.0) (ltb-true (value w) (2 ^ 64) q.1))
    go false e = refl

-- what is no text is no number
pub numeral_no_text : (w : List ℕ) → (IsUtf8 w → ⊥) → numeral w ≡ None
numeral_no_text w never = numeral_else w (λ d l v. never (IsUtf8-from_ascii w (IsAscii-from_digits w (own.to w d))))

-- nor is what begins with a plus
pub numeral_no_plus : (w : List ℕ) → get_or w 0 0 ≡ 43 → numeral w ≡ None
numeral_no_plus w e = numeral_else w (λ d l v. not_in_digits own w 43 d (λ i. omega (arith, i)) 0 l e)

pub numeral_converted : {E : Type 0} (w : List ℕ) (r : Result ℕ E) → OkIff r ((all_ascii_digits w ≡ true) × (0 < length w) × (value w < 2 ^ 64)) (value w) → result_ok r ≡ numeral w
numeral_converted w (Ok x) h = ap (λ n. Some n) h.1 ∙ sym (numeral_at w h.0.0 h.0.1 h.0.2)
numeral_converted w (Err e) h = sym (numeral_else w (λ d l v. h (d, l, v)))
