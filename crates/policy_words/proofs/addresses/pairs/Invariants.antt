-- What is left decides what the whole is.
use Rattle.std.proofs.Common.{◌≡◌, ◌-◌, [], length, take}
use Rattle.policy_words.specs.Addresses.{pairs_of}
use Rattle.policy_words.proofs.addresses.pairs.Given as goal

abbrev pub invariant-loop-place : goal.invariant-loop-place
invariant-loop-place l = (pairs_of (6 - l.place-index) (take l.place-index l.place-items) l.rest ≡ pairs_of 6 [] l.text) × (length l.place-items ≡ 6)
