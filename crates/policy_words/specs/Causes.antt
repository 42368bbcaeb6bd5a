-- The number of each cause.
-- cause_number: 1 for a fault of form; a range and a policy have their own
-- Assumes nothing.
use Rattle.std.specs.Prelude.{ℕ}
use Rattle.kinds.specs.Making.{fault_number}
use Rattle.policy.specs.Rules.{refusal_number}
use Rattle.policy_words.specs.declared.causes.Cause.{Cause}
use Rattle.policy_words.specs.declared.causes.Cause.TheVariants.{Form, Range, Refused}

abbrev pub cause_number : Cause → ℕ
cause_number Form = 1
cause_number (Range e) = fault_number e
cause_number (Refused e) = refusal_number e
