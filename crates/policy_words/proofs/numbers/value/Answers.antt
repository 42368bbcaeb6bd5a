use Rattle.std.proofs.Common.{◌≡◌, ℕ, ◌+◌, ◌*◌, ◌^◌, ◌<◌, ◌≤◌, true, ◌&&◌, List, length, get_or, drop, sym, ap, ◌∙◌, add-one, arith, lit<}
use native.Mathlib.Nat.{pow-le-pow_right, pow-succ'}
use Rattle.std.specs.Int.{IsInRange}
use Rattle.std.specs.Char.{is_ascii_digit}
use Rattle.std.specs.Str.{all_ascii_digits}
use Rattle.std.proofs.lemmas.List.{at_drop_more, at_drop_all}
use Rattle.std.proofs.lemmas.Bool.{and_parts}
use Rattle.std.proofs.lemmas.Bool.Decides.{nat_tests}
use Rattle.policy_words.specs.Numbers.{read_on}
use Rattle.policy_words.proofs.numbers.value.Goals as goal

digit : (c : ℕ) → is_ascii_digit c ≡ true → IsInRange 48 57 c
digit c e = grind (arith, nat_tests)

few : (i : ℕ) → i < 13 → 10 ^ i ≤ 10 ^ 12
few i h = let k : i ≤ 12 = omega arith in pow-le-pow_right (lit< tt) k

more : (i : ℕ) → 10 ^ (i + 1) ≡ 10 * 10 ^ i
more i = ap (λ k. 10 ^ k) (add-one i) ∙ pow-succ' 10 i

first : (xs : List ℕ) (i : ℕ) → i < length xs → all_ascii_digits (drop i xs) ≡ true → IsInRange 48 57 (get_or xs i 0) × (all_ascii_digits (drop (i + 1) xs) ≡ true)
first xs i l h =
    let p : (is_ascii_digit (get_or xs i 0) && all_ascii_digits (drop (i + 1) xs)) ≡ true = sym (at_drop_more all_ascii_digits xs i 0 l) ∙ h in
    let q = and_parts _ _ p in
    (digit _ q.0, q.1)

pub overflow_mul-sum : goal.overflow_mul-sum
overflow_mul-sum c =
    let l = few c.loop-d.d-index (omega arith) in
    omega (arith, l, c.loop-d.invariant.2)

pub overflow_sub-d : goal.overflow_sub-d
overflow_sub-d c = (first _ _ c.loop-d-test.true c.loop-d.invariant.1).0.0

pub overflow_add-sum : goal.overflow_add-sum
overflow_add-sum c =
    let l = few c.loop-d.d-index (omega arith) in
    let d = (first _ _ c.loop-d-test.true c.loop-d.invariant.1).0 in
    omega (arith, l, d.0, d.1, c.loop-d.invariant.2, c.from.ensures)

pub loop-d-preserved : goal.loop-d-preserved
loop-d-preserved c =
    let d = first _ _ c.loop-d-test.true c.loop-d.invariant.1 in
    let step = at_drop_more (read_on c.loop-d.sum) c.args.digits.now c.loop-d.d-index 0 c.loop-d-test.true in (
      ap (λ k. read_on (10 * c.loop-d.sum + k) (drop (c.loop-d.d-index + 1) c.args.digits.now)) c.from.ensures ∙ sym step ∙ c.loop-d.invariant.0,
      d.1,
      omega (arith, more c.loop-d.d-index, d.0.0, d.0.1, c.loop-d.invariant.2, c.from.ensures),
    )

pub returns : goal.returns
returns c = sym (at_drop_all (read_on c.loop-d.sum) c.args.digits.now c.loop-d.d-index c.loop-d-test.false) ∙ c.loop-d.invariant.0
