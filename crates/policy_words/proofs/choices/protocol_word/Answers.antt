use Rattle.std.proofs.Common.{◌≡◌, ℕ, Bool, true, false, cond, ltb, List, Some, None, Ok, Err, codes, Option, Result, refl, subst, ◌∙◌, rules}
use Rattle.policy_words.specs.declared.causes.Cause.{Cause}
use Rattle.policy_words.specs.declared.causes.Cause.TheVariants.{Form}
use Rattle.policy_words.specs.Words.{then, choice, lit, field, judged, any_of, Reads}
use Rattle.policy_words.specs.Choices.{protocol_of}
use Rattle.policy_words.proofs.Readings.{then_then}
use Rattle.policy_words.proofs.choices.protocol_word.Goals as goal

-- the check of a byte
abbrev of : ℕ → Result ℕ Cause
of n = cond (ltb 255 n) (Err Form) (Ok n)

alike : (b : Bool) (n : ℕ) (t : List ℕ) → then {B = Option ℕ × List ℕ} (then {A = ℕ} {B = ℕ × List ℕ} (cond b (Err Form) (Ok n)) (λ a. Ok (a, t))) (λ p. Ok (Some p.0, p.1)) ≡ cond b (Err Form) (Ok (Some n, t))
alike true n t = refl
alike false n t = refl

word : (t : List ℕ) → any_of (judged of t) t ≡ protocol_of t
unfolding protocol_of
word t i =
    choice (lit (codes " any") t) (λ u. Ok (None, u))
    ((then_then (field t) (λ p. then (of p.0) (λ a. Ok (a, p.1))) (λ p. Ok (Some p.0, p.1)) ∙ (λ j. then (field t) (λ p. alike (ltb 255 p.0) p.0 p.1 j))) i)

pub returns : goal.returns
returns c =
    let t = c.args.text.now in
    subst (Reads c.any_or.result) (word t) (c.any_or.ensures (judged of t) (λ a h. search rules))
