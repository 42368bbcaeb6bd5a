use Rattle.std.proofs.Common.{◌≡◌, ℕ, ◌+◌, ◌-◌, ◌*◌, ◌≤◌, List, [], ◌∷◌, length, get_or, take, drop, Ok, Err, Result, sym, ◌∙◌, arith, rules}
use Rattle.std.proofs.lemmas.List.{take_all}
use Rattle.policy_words.specs.declared.causes.Cause.{Cause}
use Rattle.policy_words.specs.Words.{then}
use Rattle.policy_words.specs.Addresses.{hex_digit, hex_byte}
use Rattle.policy_words.proofs.Readings.{same_ok}
use Rattle.policy_words.proofs.addresses.hex_byte.Goals as goal

-- what is left after two bytes
abbrev rest : List ℕ → List ℕ
rest t = take (length t - 2) (drop 2 t)

-- a pair of digits, and the same before what is left
on : (r s : Result ℕ Cause) (b : ℕ) (t : List ℕ) → Ok b ≡ then r (λ h. then s (λ l. Ok (16 * h + l))) → then {B = ℕ × List ℕ} r (λ h. then s (λ l. Ok (16 * h + l, t))) ≡ Ok (b, t)
on (Ok h) (Ok l) b t e = let same : 16 * h + l ≡ b = same_ok (sym e) in (λ i. Ok (same i, t))
on (Ok h) (Err x) b t e = cc
on (Err x) s b t e = cc

both : (t : List ℕ) (b : ℕ) → 2 ≤ length t → Ok b ≡ then (hex_digit (get_or t 0 0)) (λ h. then (hex_digit (get_or t 1 0)) (λ l. Ok (16 * h + l))) → hex_byte t ≡ Ok (b, rest t)
both [] b l e = absurd (omega arith)
both (c ∷ []) b l e = absurd (omega arith)
both (c ∷ (d ∷ t)) b l e =
    let long : length t ≤ length (c ∷ (d ∷ t)) - 2 = omega arith in
    on (hex_digit c) (hex_digit d) b t e ∙ (λ i. Ok (b, sym (take_all (length (c ∷ (d ∷ t)) - 2) t long) i))

pub returns : goal.returns
returns c =
    let l : 2 ≤ length c.args.text.now = search rules in
    both c.args.text.now _ l c.in_ok-hex_pair.ensures
