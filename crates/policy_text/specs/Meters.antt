-- The words of a meter, which end a line. Each reader is told the place of its first word.
-- two_of: two numbers by their checks; last_two_of: two that end the line; single_of, two_rate_of: the numbers of `sr` and `tr`; meter_of: all words
-- Assumes nothing.
use Rattle.std.specs.Prelude.{ℕ, ◌+◌, List, Ok, codes, Result}
use Rattle.kinds.specs.declared.profiles.Fault.{Fault}
use Rattle.kinds.specs.declared.profiles.Profile.{Profile}
use Rattle.kinds.specs.declared.profiles.Profile.TheVariants.{Vs, Lb, Tb, Sr, Tr}
use Rattle.kinds.specs.Making.{rate_of, tolerance_of, burst_of, loose_burst_of, excess_of, peak_of}
use Rattle.policy_words.specs.Words.{then, choice, lit, finish}
use Rattle.policy_text.specs.declared.lines.LineFault.{LineFault}
use Rattle.policy_text.specs.Places.{placed}
use Rattle.policy_text.specs.Amounts.{amount_of}

unfoldable pub two_of : {A B : Type 0} → ℕ → (ℕ → Result A Fault) → (ℕ → Result B Fault) → List ℕ → Result ((A × B) × List ℕ) LineFault
two_of w a b t =
    then (placed w (amount_of a t)) (λ p. then (placed (w + 1) (amount_of b p.1)) (λ q. Ok ((p.0, q.0), q.1)))

unfoldable pub last_two_of : {A B : Type 0} → ℕ → (ℕ → Result A Fault) → (ℕ → Result B Fault) → List ℕ → Result (A × B) LineFault
last_two_of w a b t = then (two_of w a b t) (λ p. then (placed (w + 2) (finish p.1)) (λ _. Ok p.0))

-- CIR, CBS, EBS
unfoldable pub single_of : ℕ → List ℕ → Result Profile LineFault
single_of w t =
    then (two_of w rate_of loose_burst_of t) (λ p.
    then (placed (w + 2) (amount_of (excess_of p.0.1) p.1)) (λ e.
    then (placed (w + 3) (finish e.1)) (λ _.
    Ok (Sr p.0.0 p.0.1 e.0))))

-- CIR, CBS, PIR, PBS
unfoldable pub two_rate_of : ℕ → List ℕ → Result Profile LineFault
two_rate_of w t =
    then (two_of w rate_of burst_of t) (λ p. then (last_two_of (w + 2) (peak_of p.0.0) burst_of p.1) (λ q. Ok (Tr p.0.0 p.0.1 q.0 q.1)))

unfoldable pub meter_of : ℕ → List ℕ → Result Profile LineFault
meter_of w t =
    choice (lit (codes " vs") t) (λ u. then (last_two_of (w + 1) rate_of tolerance_of u) (λ p. Ok (Vs p.0 p.1)))
    (choice (lit (codes " lb") t) (λ u. then (last_two_of (w + 1) rate_of tolerance_of u) (λ p. Ok (Lb p.0 p.1)))
    (choice (lit (codes " tb") t) (λ u. then (last_two_of (w + 1) rate_of burst_of u) (λ p. Ok (Tb p.0 p.1)))
    (choice (lit (codes " sr") t) (single_of (w + 1))
    (then (placed w (lit (codes " tr") t)) (two_rate_of (w + 1))))))
