use Rattle.std.proofs.Common.{◌≡◌, ℕ, suc, ◌+◌, ◌-◌, ◌<◌, List, [], ◌∷◌, ◌++◌, length, take, set, Ok, Err, Result, sym, ap, ◌∙◌, arith, rules}
use Rattle.std.proofs.lemmas.List.{take_more_set, length-set}
use Rattle.policy_words.specs.declared.causes.Cause.{Cause}
use Rattle.policy_words.specs.Words.{then}
use Rattle.policy_words.specs.Addresses.{hex_byte, pairs_of}
use Rattle.policy_words.proofs.addresses.pairs.Goals as goal

-- the pairs left, where one more comes
left : (i : ℕ) → i < 6 → 6 - i ≡ suc (6 - (i + 1))
left i h = omega arith

broken : (i : ℕ) (bs t : List ℕ) (e : Cause) → i < 6 → hex_byte t ≡ Err e → pairs_of (6 - i) bs t ≡ Err e
broken i bs t e h is = ap (λ k. pairs_of k bs t) (left i h) ∙ ap (λ (r : Result (ℕ × List ℕ) Cause). then r (λ p. pairs_of (6 - (i + 1)) (bs ++ p.0 ∷ []) p.1)) is

step : (i : ℕ) (xs t : List ℕ) (b : ℕ) (after : List ℕ) → i < 6 → length xs ≡ 6 → hex_byte t ≡ Ok (b, after)
    → pairs_of (6 - (i + 1)) (take (i + 1) (set xs i b)) after ≡ pairs_of (6 - i) (take i xs) t
step i xs t b after h long is =
    ap (λ bs. pairs_of (6 - (i + 1)) bs after) (take_more_set xs i b (omega arith))
    ∙ sym (ap (λ k. pairs_of k (take i xs) t) (left i h) ∙ ap (λ (r : Result (ℕ × List ℕ) Cause). then r (λ p. pairs_of (6 - (i + 1)) (take i xs ++ p.0 ∷ []) p.1)) is)

pub returns-in_err-b : goal.returns-in_err-b
returns-in_err-b c =
    let l = c.loop-place in
    let h : l.place-index < 6 = omega arith in
    let e = sym l.invariant.0 ∙ broken l.place-index (take l.place-index l.place-items) l.rest.now _ h c.in_err-b.ensures in
    search rules

pub loop-place-preserved : goal.loop-place-preserved
loop-place-preserved c =
    let l = c.loop-place in
    let h : l.place-index < 6 = omega arith in (
      step l.place-index l.place-items l.rest.now _ _ h l.invariant.1 c.in_ok-b.ensures ∙ l.invariant.0,
      length-set l.place-items l.place-index _ ∙ l.invariant.1,
    )
