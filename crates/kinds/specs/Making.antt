-- What a profile buys: the table of the five kinds, and the ranges of their numbers.
-- fault_number: the number of each fault
-- within: a number in its range, or a fault
-- rate_of, tolerance_of, burst_of, loose_burst_of, excess_of, peak_of: the check of each word
-- gcra_terms, token_terms, single_terms, two_terms: the rows of the table; bought: the terms of a profile, or its first fault in the order of the words
-- made: the unused meter of what was bought; meant: a result by the meaning of its meter
-- Word, word_bought, word_of: the kind of a profile, and of a meter
-- Assumes nothing.
use Rattle.std.specs.Prelude.{ℕ, ◌+◌, ◌*◌, cond, ◌&&◌, Some, None, Ok, Err, Result, nat_le}
use Rattle.std.specs.Result.{result_and}
use Rattle.meter.specs.declared.measures.Limit.{Limit}
use Rattle.meter.specs.declared.measures.State.{State}
use Rattle.meter.specs.declared.measures.Terms.{Terms}
use Rattle.meter.specs.Rules.{grains, unused}
use Rattle.kinds.specs.declared.profiles.AnyMeter.{AnyMeter}
use Rattle.kinds.specs.declared.profiles.Fault.{Fault}
use Rattle.kinds.specs.declared.profiles.Fault.TheVariants.{BadRate, BadDepth, PeakBelowCommitted}
use Rattle.kinds.specs.declared.profiles.Profile.{Profile}
use Rattle.kinds.specs.declared.profiles.Profile.TheVariants.{Vs, Lb, Tb, Sr, Tr}
use Rattle.kinds.specs.Kinds.{grains_a_byte, grains_a_microsecond}

abbrev pub fault_number : Fault → ℕ
fault_number BadRate = 2
fault_number BadDepth = 3
fault_number PeakBelowCommitted = 4

-- the largest interval, rate or burst, and the largest tolerance
abbrev pub largest : ℕ
largest = 1000000000

abbrev pub largest_tolerance : ℕ
largest_tolerance = 1000000000000

abbrev pub within : ℕ → ℕ → Fault → ℕ → Result ℕ Fault
within low high f n = cond (nat_le low n && nat_le n high) (Ok n) (Err f)

-- an interval, or a rate
abbrev pub rate_of : ℕ → Result ℕ Fault
rate_of n = within 1 largest BadRate n

abbrev pub tolerance_of : ℕ → Result ℕ Fault
tolerance_of n = within 0 largest_tolerance BadDepth n

-- a burst that must be, and one that may be nothing
abbrev pub burst_of : ℕ → Result ℕ Fault
burst_of n = within 1 largest BadDepth n

abbrev pub loose_burst_of : ℕ → Result ℕ Fault
loose_burst_of n = within 0 largest BadDepth n

-- the excess burst behind a committed one: one of the two is something
abbrev pub excess_of : ℕ → ℕ → Result ℕ Fault
excess_of cbs ebs = cond (nat_le 1 (cbs + ebs)) (loose_burst_of ebs) (Err BadDepth)

-- the peak rate behind a committed one: in range, and no lower
abbrev pub peak_of : ℕ → ℕ → Result ℕ Fault
peak_of cir pir = result_and (rate_of pir) (cond (nat_le cir pir) (Ok pir) (Err PeakBelowCommitted))

abbrev pub limit : ℕ → ℕ → Limit
limit rate depth = record { rate = rate; depth = grains depth }

-- the rows of the table
abbrev pub gcra_terms : ℕ → ℕ → Terms
gcra_terms t l =
    record { base = grains (t * grains_a_microsecond); per_byte = grains 0; all = limit 1 ((t + l) * grains_a_microsecond); green = None; excess = None }

abbrev pub token_terms : ℕ → ℕ → Terms
token_terms r b =
    record { base = grains 0; per_byte = grains grains_a_byte; all = limit r (b * grains_a_byte); green = None; excess = None }

abbrev pub single_terms : ℕ → ℕ → ℕ → Terms
single_terms cir cbs ebs =
    record {
      base = grains 0;
      per_byte = grains grains_a_byte;
      all = limit cir ((cbs + ebs) * grains_a_byte);
      green = Some (limit cir (cbs * grains_a_byte));
      excess = Some (grains (ebs * grains_a_byte));
    }

abbrev pub two_terms : ℕ → ℕ → ℕ → ℕ → Terms
two_terms cir cbs pir pbs =
    record {
      base = grains 0;
      per_byte = grains grains_a_byte;
      all = limit pir (pbs * grains_a_byte);
      green = Some (limit cir (cbs * grains_a_byte));
      excess = None;
    }

-- the terms, behind the check of each word in its turn
abbrev pub bought : Profile → Result Terms Fault
bought (Vs t l) = result_and (rate_of t) (result_and (tolerance_of l) (Ok (gcra_terms t l)))
bought (Lb t l) = result_and (rate_of t) (result_and (tolerance_of l) (Ok (gcra_terms t l)))
bought (Tb r b) = result_and (rate_of r) (result_and (burst_of b) (Ok (token_terms r b)))
bought (Sr cir cbs ebs) =
    result_and (rate_of cir) (result_and (loose_burst_of cbs) (result_and (excess_of cbs ebs) (Ok (single_terms cir cbs ebs))))
bought (Tr cir cbs pir pbs) =
    result_and (rate_of cir) (result_and (burst_of cbs) (result_and (peak_of cir pir) (result_and (burst_of pbs) (Ok (two_terms cir cbs pir pbs)))))

abbrev pub fresh : Result Terms Fault → Result State Fault
fresh (Ok w) = Ok (unused w)
fresh (Err e) = Err e

abbrev pub made : Profile → Result State Fault
made p = fresh (bought p)

abbrev pub meant : {S : Type 0} → (S → State) → Result S Fault → Result State Fault
meant f (Ok m) = Ok (f m)
meant f (Err e) = Err e

-- the words of the five kinds
pub data Word : Type 0 where
  vs lb tb sr tr : Word

abbrev pub word_bought : Profile → Word
word_bought (Vs t l) = vs
word_bought (Lb t l) = lb
word_bought (Tb r b) = tb
word_bought (Sr cir cbs ebs) = sr
word_bought (Tr cir cbs pir pbs) = tr

abbrev pub word_of : AnyMeter → Word
word_of (AnyMeter.Vs m) = vs
word_of (AnyMeter.Lb m) = lb
word_of (AnyMeter.Tb m) = tb
word_of (AnyMeter.Sr m) = sr
word_of (AnyMeter.Tr m) = tr
