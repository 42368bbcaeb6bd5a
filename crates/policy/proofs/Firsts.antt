-- The first rule for a key: it is where the library finds it, and no rule before it is for the key.
use Rattle.std.proofs.Common.{◌≡◌, ℕ, zero, suc, ◌+◌, ◌<◌, ◌≤◌, Bool, true, false, not, cond, ltb, List, [], ◌∷◌, map, length, Some, None, Option, sym, refl, ap, ◌∙◌, subst, ⊎_elim, arith}
use Rattle.std.specs.List.{position, position_or_len}
use Rattle.std.proofs.lemmas.Bool.{cond_both, cases_lt, lt-ltb, le-ltb}
use Rattle.std.proofs.lemmas.Bool.Decides.{nat_tests}
use Rattle.packet.specs.declared.kinds.Key.{Key}
use Rattle.policy.specs.declared.rules.Selector.{Selector}
use Rattle.policy.specs.declared.rules.Rule.{Rule}
use Rattle.policy.specs.Rules.{matches, next, first_for, SelectorAt, First}

-- the first of one rule before others, found among them at n or not at all
step : (b : Bool) (n len : ℕ) (left : Option ℕ) → left ≡ cond (ltb n len) (Some n) None
    → cond b (Some 0) (next left) ≡ cond (ltb (cond (not b) (1 + n) 0) (suc len)) (Some (cond (not b) (1 + n) 0)) None
step true n len left is = grind (arith, nat_tests)
step false n len left is = ⊎_elim
    (λ (h : n < len). let l : left ≡ Some n = is ∙ grind (arith, nat_tests) in let e : suc n ≡ 1 + n = omega arith in rw (l, lt-ltb (1 + n) (suc len) (omega arith)) (ap Some e))
    (λ (h : len ≤ n). let l : left ≡ None = is ∙ grind (arith, nat_tests) in rw (l, le-ltb (1 + n) (suc len) (omega arith)))
    (cases_lt n len)

pub first_position : {M : Type 0} (rs : List (Rule M)) (k : Key) → first_for (map (λ r. r.selector) rs) k ≡ position (λ r. matches r.selector k) rs
first_position [] k = refl
first_position {M} (r ∷ rs) k =
    step (matches r.selector k) (position_or_len (λ (x : Rule M). matches x.selector k) rs) (length rs) (first_for (map (λ (x : Rule M). x.selector) rs) k) (first_position rs k)

first_next : (s : Selector) (ss : List Selector) (k : Key) → matches s k ≡ false → (o : Option ℕ) → First ss k o → First (s ∷ ss) k (next o)
first_next s ss k other (Some i) f = (
  omega (arith, f.0),
  λ t at. f.1 t (omega (arith, at.0), at.1),
  λ j t. elim j as (λ j. j < suc i → SelectorAt (s ∷ ss) j t → matches t k ≡ false)
      [ zero ↦ λ lt at. ap (λ x. matches x k) at.1 ∙ other | suc m ↦ λ lt at. f.2 m t (omega arith) (omega (arith, at.0), at.1) ],
)
first_next s ss k other None f = λ j t. elim j as (λ j. SelectorAt (s ∷ ss) j t → matches t k ≡ false)
    [ zero ↦ λ at. ap (λ x. matches x k) at.1 ∙ other | suc m ↦ λ at. f m t (omega (arith, at.0), at.1) ]

first_for_first : (ss : List Selector) (k : Key) → First ss k (first_for ss k)
first_for_first [] k = λ j t at. absurd (omega (arith, at.0))
first_for_first (s ∷ ss) k =
    cond_both (matches s k) (Some 0) (next (first_for ss k)) (First (s ∷ ss) k)
    (λ same. (omega arith, λ t at. ap (λ x. matches x k) at.1 ∙ same, λ j t lt at. absurd (omega arith)))
    (λ other. first_next s ss k other (first_for ss k) (first_for_first ss k))

pub first_from : (ss : List Selector) (k : Key) (o : Option ℕ) → o ≡ first_for ss k → First ss k o
first_from ss k o is = subst (First ss k) (sym is) (first_for_first ss k)
