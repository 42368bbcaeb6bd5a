-- The words that choose.
-- protocol_of: a protocol, or any; class_word_of: a class; mode_of: a mode
-- Assumes nothing.
use Rattle.std.specs.Prelude.{ℕ, cond, List, Some, None, Ok, Err, codes, Option, Result, nat_lt}
use Rattle.packet.specs.declared.kinds.Class.{Class}
use Rattle.packet.specs.Kinds.{class_of}
use Rattle.meter.specs.declared.measures.Mode.{Mode}
use Rattle.meter.specs.declared.measures.Mode.TheVariants.{Blind, Aware}
use Rattle.policy_words.specs.declared.causes.Cause.{Cause}
use Rattle.policy_words.specs.declared.causes.Cause.TheVariants.{Form}
use Rattle.policy_words.specs.Words.{then, choice, lit, field}

unfoldable pub protocol_of : List ℕ → Result (Option ℕ × List ℕ) Cause
protocol_of t =
    choice (lit (codes " any") t) (λ u. Ok (None, u)) (then (field t) (λ p. cond (nat_lt 255 p.0) (Err Form) (Ok (Some p.0, p.1))))

abbrev pub as_class : Option Class → List ℕ → Result (Class × List ℕ) Cause
as_class (Some c) t = Ok (c, t)
as_class None t = Err Form

unfoldable pub class_word_of : List ℕ → Result (Class × List ℕ) Cause
class_word_of t = then (field t) (λ p. as_class (class_of p.0) p.1)

abbrev pub mode_of : List ℕ → Result (Mode × List ℕ) Cause
mode_of t = choice (lit (codes " blind") t) (λ u. Ok (Blind, u)) (then (lit (codes " aware") t) (λ u. Ok (Aware, u)))
