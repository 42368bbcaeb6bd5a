use Rattle.std.proofs.Common.{◌≡◌, ◌^◌, ◌<◌, true, drop}
use Rattle.std.specs.Str.{all_ascii_digits}
use Rattle.policy_words.specs.Numbers.{read_on}
use Rattle.policy_words.proofs.numbers.value.Given as goal

abbrev pub invariant-loop-d : goal.invariant-loop-d
invariant-loop-d l =
    (read_on l.sum (drop l.d-index l.digits) ≡ read_on 0 l.digits)
    × (all_ascii_digits (drop l.d-index l.digits) ≡ true)
    × (l.sum < 10 ^ l.d-index)
