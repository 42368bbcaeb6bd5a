use Rattle.std.proofs.Common.{◌≡◌, ℕ, [], List, Some, None, Ok, codes, Result, subst, ◌∙◌, rules}
use Rattle.packet.specs.declared.kinds.Station.{Station}
use Rattle.policy_words.specs.declared.causes.Cause.{Cause}
use Rattle.policy_words.specs.Words.{then, choice, lit, gap, any_of, Reads}
use Rattle.policy_words.specs.Addresses.{pairs_of, station_of}
use Rattle.policy_words.proofs.Readings.{then_then}
use Rattle.policy_words.proofs.addresses.station_word.Goals as goal

-- a station that is not any
abbrev of : List ℕ → Result (Station × List ℕ) Cause
of t = then (gap t) (λ u. then (pairs_of 6 [] u) (λ p. Ok (record { source = p.0 }, p.1)))

word : (t : List ℕ) → any_of (of t) t ≡ station_of t
unfolding station_of
word t i =
    choice (lit (codes " any") t) (λ u. Ok (None, u))
    ((then_then {B = Station × List ℕ} (gap t) (λ u. then (pairs_of 6 [] u) (λ p. Ok (record { source = p.0 }, p.1))) (λ p. Ok (Some p.0, p.1))
    ∙ (λ j. then (gap t) (λ u. then_then {B = Station × List ℕ} (pairs_of 6 [] u) (λ p. Ok (record { source = p.0 }, p.1)) (λ p. Ok (Some p.0, p.1)) j))) i)

pub returns : goal.returns
returns c =
    let t = c.args.text.now in
    subst (Reads c.any_or.result) (word t) (c.any_or.ensures (of t) (λ a h. search rules))
