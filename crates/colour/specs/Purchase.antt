-- The meter that words buy.
-- kind_named: the kind that a word names; word_of: what a word can stand for
-- malformed: a word at fault by its form; cause_number: the number of each cause
-- number_at, placed, end_at: the number at an index; a range's fault there; no word there
-- checked_at: the number at an index as a check passes it; Computes: a check that answers by a function
-- gcra_of, token_of: the two numbers of a kind that has two (two_of), from left to right; single_of, double_of: the profile of `sr`, of `tr`
-- profile_of: what words buy, or the first word at fault; Bought: the meter of that
-- Assumes nothing.
use Rattle.std.specs.Prelude.{◌≡◌, ℕ, ◌+◌, ◌^◌, ◌<◌, cond, List, length, Some, None, Ok, Err, codes, Option, Result, nat_lt, slice_index_or}
use Rattle.std.specs.Option.{ok_or}
use Rattle.std.specs.Result.{result_map_both}
use Rattle.std.specs.Str.{bytes_eq}
use Rattle.meter.specs.declared.measures.Terms.{Terms}
use Rattle.meter.specs.Rules.{unused}
use Rattle.kinds.specs.declared.profiles.AnyMeter.{AnyMeter}
use Rattle.kinds.specs.declared.profiles.Fault.{Fault}
use Rattle.kinds.specs.declared.profiles.Profile.{Profile}
use Rattle.kinds.specs.declared.profiles.Profile.TheVariants.{Vs, Lb, Tb, Sr, Tr}
use Rattle.kinds.specs.Kinds.{any_meaning}
use Rattle.kinds.specs.Making.{fault_number, rate_of, tolerance_of, burst_of, loose_burst_of, excess_of, peak_of, bought}
use Rattle.colour.specs.declared.purchase.Cause.{Cause}
use Rattle.colour.specs.declared.purchase.Cause.TheVariants.{Form, Range}
use Rattle.colour.specs.declared.purchase.Kind.{Kind}
use Rattle.colour.specs.declared.purchase.Word.{Word}
use Rattle.colour.specs.declared.purchase.WordFault.{WordFault}
use Rattle.colour.specs.Words.{numeral}

abbrev pub kind_named : List ℕ → Option Kind
kind_named w =
    cond (bytes_eq w (codes "vs")) (Some Kind.Vs)
    (cond (bytes_eq w (codes "lb")) (Some Kind.Lb)
    (cond (bytes_eq w (codes "tb")) (Some Kind.Tb)
    (cond (bytes_eq w (codes "sr")) (Some Kind.Sr) (cond (bytes_eq w (codes "tr")) (Some Kind.Tr) None))))

abbrev pub word_of : List ℕ → Word
word_of w = record { kind = kind_named w; number = numeral w }

abbrev pub cause_number : Cause → ℕ
cause_number Form = 1
cause_number (Range fault) = fault_number fault

abbrev pub malformed : ℕ → WordFault
malformed k = record { word = k; cause = Form }

-- a missing word is neither a name nor a number
abbrev pub missing : Word
missing = record { kind = None; number = None }

-- words are counted from 1, and stand at an index from 0
abbrev pub number_at : List Word → ℕ → Result ℕ WordFault
number_at ws i = ok_or (slice_index_or ws i missing).number (malformed (i + 1))

abbrev pub placed : {X : Type 0} → ℕ → Result X Fault → Result X WordFault
placed i checked = result_map_both (λ n. n) (λ fault. record { word = i + 1; cause = Range fault }) checked

abbrev pub end_at : List Word → ℕ → Result (Unit {0}) WordFault
end_at ws i = cond (nat_lt i (length ws)) (Err (malformed (i + 1))) (Ok tt)

abbrev pub then : {X Y : Type 0} → Result X WordFault → (X → Result Y WordFault) → Result Y WordFault
then (Ok x) f = f x
then (Err e) f = Err e

-- a number's form, then its range
abbrev pub checked_at : {X : Type 0} → List Word → ℕ → (ℕ → Result X Fault) → Result X WordFault
checked_at ws i check = then (number_at ws i) (λ n. placed i (check n))

-- whatever a check answers to a number of 64 bits is this function of it
abbrev pub Computes : {X : Type 0} → (ℕ → Result X Fault → Type 0) → (ℕ → Result X Fault) → Type 0
Computes {X} answers f = (n : ℕ) (r : Result X Fault) → n < 2 ^ 64 → answers n r → r ≡ f n

-- an interval or a rate, and what a check passes
abbrev pub two_of : {X : Type 0} → (ℕ → Result X Fault) → List Word → Result (ℕ × X) WordFault
two_of check ws =
    then (checked_at ws 1 rate_of) (λ n.
    then (checked_at ws 2 check) (λ m.
    then (end_at ws 3) (λ _. Ok (n, m))))

abbrev pub gcra_of : List Word → Result (ℕ × ℕ) WordFault
gcra_of ws = two_of tolerance_of ws

abbrev pub token_of : List Word → Result (ℕ × ℕ) WordFault
token_of ws = two_of burst_of ws

abbrev pub single_of : List Word → Result Profile WordFault
single_of ws =
    then (checked_at ws 1 rate_of) (λ cir.
    then (checked_at ws 2 loose_burst_of) (λ cbs.
    then (checked_at ws 3 (excess_of cbs)) (λ ebs.
    then (end_at ws 4) (λ _. Ok (Sr cir cbs ebs)))))

abbrev pub double_of : List Word → Result Profile WordFault
double_of ws =
    then (checked_at ws 1 rate_of) (λ cir.
    then (checked_at ws 2 burst_of) (λ cbs.
    then (checked_at ws 3 (peak_of cir)) (λ pir.
    then (checked_at ws 4 burst_of) (λ pbs.
    then (end_at ws 5) (λ _. Ok (Tr cir cbs pir pbs))))))

abbrev pub profile_for : Option Kind → List Word → Result Profile WordFault
profile_for None ws = Err (malformed 1)
profile_for (Some Kind.Vs) ws = then (gcra_of ws) (λ p. Ok (Vs p.0 p.1))
profile_for (Some Kind.Lb) ws = then (gcra_of ws) (λ p. Ok (Lb p.0 p.1))
profile_for (Some Kind.Tb) ws = then (token_of ws) (λ p. Ok (Tb p.0 p.1))
profile_for (Some Kind.Sr) ws = single_of ws
profile_for (Some Kind.Tr) ws = double_of ws

abbrev pub profile_of : List Word → Result Profile WordFault
profile_of ws = profile_for (slice_index_or ws 0 missing).kind ws

-- the unused meter of what the words buy, or the word at fault
abbrev pub Bought : List Word → Result AnyMeter WordFault → Type 0
Bought ws (Ok m) = (p : Profile) × (w : Terms) × (profile_of ws ≡ Ok p) × (bought p ≡ Ok w) × (any_meaning m ≡ unused w)
Bought ws (Err e) = profile_of ws ≡ Err e
