-- A test that a list passes, as a rule for each of its places.
-- Assumes nothing.
use Rattle.std.proofs.Common.{◌≡◌, ℕ, zero, suc, ◌<◌, true, not, eqb, ltb, List, [], ◌∷◌, length, get_or, sym, refl, ap, arith}
use Rattle.packet.specs.Codes.{all_below, absent, distinct}
use Rattle.std.proofs.lemmas.Bool.{and_parts, ltb-true, eqb-false, not-true}

pub below_at : (n : ℕ) (xs : List ℕ) → all_below n xs ≡ true → (i : ℕ) → i < length xs → get_or xs i 0 < n
below_at n [] e i h = absurd (omega arith)
below_at n (x ∷ xs) e zero h = ltb-true x n (and_parts _ _ e).0
below_at n (x ∷ xs) e (suc i) h = below_at n xs (and_parts (ltb x n) _ e).1 i (omega arith)

not_at : (x : ℕ) (xs : List ℕ) → absent x xs ≡ true → (i : ℕ) → i < length xs → x ≡ get_or xs i 0 → ⊥
not_at x [] e i h same = omega arith
not_at x (y ∷ ys) e zero h same = eqb-false x y (not-true _ (and_parts _ _ e).0) same
not_at x (y ∷ ys) e (suc i) h same = not_at x ys (and_parts (not (eqb x y)) _ e).1 i (omega arith) same

pub apart_at : (xs : List ℕ) → distinct xs ≡ true → (i j : ℕ) → i < length xs → j < length xs → get_or xs i 0 ≡ get_or xs j 0 → i ≡ j
apart_at [] e i j h k same = absurd (omega arith)
apart_at (x ∷ xs) e zero zero h k same = refl
apart_at (x ∷ xs) e zero (suc j) h k same = absurd (not_at x xs (and_parts _ _ e).0 j (omega arith) same)
apart_at (x ∷ xs) e (suc i) zero h k same = absurd (not_at x xs (and_parts _ _ e).0 i (omega arith) (sym same))
apart_at (x ∷ xs) e (suc i) (suc j) h k same = ap suc (apart_at xs (and_parts (absent x xs) _ e).1 i j (omega arith) (omega arith) same)
