-- Where in a line a fault stands.
-- placed: a word's fault, with the word's place
-- Assumes nothing.
use Rattle.std.specs.Prelude.{ℕ, Ok, Err, Result}
use Rattle.policy_words.specs.declared.causes.Cause.{Cause}
use Rattle.policy_text.specs.declared.lines.LineFault.{LineFault}

abbrev pub placed : {A : Type 0} → ℕ → Result A Cause → Result A LineFault
placed n (Ok a) = Ok a
placed n (Err e) = Err (record { word = n; cause = e })
