-- The numbers of a meter's words.
-- check_of: a number that is such an amount, by the rules of making a meter; passed: a check without its value
-- ranged: a fault of range as a word's; amount_of: the next word, a number that a check of making a meter takes
-- Assumes nothing.
use Rattle.std.specs.Prelude.{ℕ, List, Ok, Err, Result}
use Rattle.kinds.specs.declared.profiles.Fault.{Fault}
use Rattle.kinds.specs.Making.{rate_of, tolerance_of, burst_of, loose_burst_of, excess_of, peak_of}
use Rattle.policy_words.specs.declared.causes.Cause.{Cause}
use Rattle.policy_words.specs.declared.causes.Cause.TheVariants.{Range}
use Rattle.policy_words.specs.Words.{judged}
use Rattle.policy_text.specs.declared.amounts.Amount.{Amount}
use Rattle.policy_text.specs.declared.amounts.Amount.TheVariants.{Rate, Tolerance, Burst, LooseBurst, Excess, Peak}

abbrev pub check_of : Amount → ℕ → Result ℕ Fault
check_of Rate = rate_of
check_of Tolerance = tolerance_of
check_of Burst = burst_of
check_of LooseBurst = loose_burst_of
check_of (Excess cbs) = excess_of cbs
check_of (Peak cir) = peak_of cir

abbrev pub passed : {A : Type 0} → Result A Fault → Result (Unit {0}) Fault
passed (Ok a) = Ok tt
passed (Err e) = Err e

abbrev pub ranged : {A : Type 0} → Result A Fault → Result A Cause
ranged (Ok a) = Ok a
ranged (Err e) = Err (Range e)

-- its form first, then its range
unfoldable pub amount_of : {A : Type 0} → (ℕ → Result A Fault) → List ℕ → Result (A × List ℕ) Cause
amount_of check t = judged (λ n. ranged (check n)) t
