-- What a number's text is. Assumes nothing.
use Rattle.std.specs.Prelude.{◌≡◌, ℕ, suc, ◌+◌, ◌-◌, ◌*◌, cond, ◌&&◌, List, [], ◌∷◌, take, drop, Ok, Err, Result, ◌==◌, nat_lt, slice_index}
use Rattle.std.specs.Char.{is_ascii_digit}
use Rattle.policy_words.specs.declared.numbers.NumberFault.{NumberFault}
use Rattle.policy_words.specs.declared.numbers.NumberFault.TheVariants.{NoDigit, TooLong, LeadingZero}

-- how many digits stand at the front
abbrev pub digit_run : List ℕ → ℕ
digit_run [] = 0
digit_run (c ∷ cs) = cond (is_ascii_digit c) (suc (digit_run cs)) 0

-- the number that digits write, after the number so far
abbrev pub read_on : ℕ → List ℕ → ℕ
read_on n [] = n
read_on n (c ∷ cs) = read_on (10 * n + (c - 48)) cs

abbrev pub number_by : ℕ → List ℕ → Result (ℕ × List ℕ) NumberFault
number_by n t =
    cond (n == 0) (Err NoDigit)
    (cond (nat_lt 13 n) (Err TooLong) (cond (slice_index t 0 == 48 && nat_lt 1 n) (Err LeadingZero) (Ok (read_on 0 (take n t), drop n t))))

-- the number at the front of a text, and what follows it
abbrev pub number_of : List ℕ → Result (ℕ × List ℕ) NumberFault
number_of t = number_by (digit_run t) t

-- a text that does not begin with a digit
abbrev pub Undigited : List ℕ → Type 0
Undigited t = digit_run t ≡ 0
