-- Sums of 16-bit words: plain, and in ones' complement.
-- Assumes nothing.
use Rattle.std.proofs.Common.{◌≡◌, ℕ, suc, ◌+◌, ◌-◌, ◌*◌, ◌/◌, ◌<◌, ◌≤◌, List, [], ◌∷◌, ◌++◌, length, get_or, take, drop, sum, map, sym, refl, ap, ◌∙◌, inl, inr, arith}
use Rattle.std.specs.List.{All}
use Rattle.std.specs.Simd.{first_chunks}
use Rattle.std.proofs.lemmas.List.Elements.{All-nil, All-cons, All-head, All-tail, All-append, All-take, All-drop, All-from_get_or}
use Rattle.std.proofs.lemmas.List.Sums.{sum_by-cons, sum_by-append}
use Rattle.std.proofs.lemmas.Bool.{cases_eq}
use Rattle.packet.specs.Layout.{byte, field16, words_of, ones_sum, checksum_of}
use Rattle.packet.specs.Sums.{Folds}

-- the first word, and the words of the rest
pub sum_words_more : (xs : List ℕ) → 2 ≤ length xs → sum (words_of xs) ≡ (byte xs 0 * 256 + byte xs 1) + sum (words_of (drop 2 xs))
sum_words_more [] h = absurd (omega arith)
sum_words_more (a ∷ []) h = absurd (omega arith)
sum_words_more (a ∷ (b ∷ rest)) h = sum_by-cons (λ x. x) (a * 256 + b) (words_of rest)

-- words are chunks of two bytes
pub words_chunks : (xs : List ℕ) → words_of xs ≡ map (λ w. field16 w 0) (first_chunks 2 (length xs / 2) xs)
words_chunks [] = refl
words_chunks (a ∷ []) = refl
words_chunks (a ∷ (b ∷ rest)) =
    let more : length (a ∷ (b ∷ rest)) / 2 ≡ suc (length rest / 2) = omega arith in
    rw more (ap (λ ws. (a * 256 + b) ∷ ws) (words_chunks rest))

-- each below n
abbrev pub Below : ℕ → List ℕ → Type 0
Below n xs = All (λ x. x < n) xs

-- the first two, and the rest
two : (n a b : ℕ) (rest : List ℕ) → Below n (a ∷ (b ∷ rest)) → (a < n) × (b < n) × Below n rest
two n a b rest h =
    let P : ℕ → Type 0 = λ x. x < n in
    let more = All-tail P a (b ∷ rest) h in
    (All-head P a (b ∷ rest) h, All-head P b rest more, All-tail P b rest more)

pub below_words : (xs : List ℕ) → Below 256 xs → Below 65536 (words_of xs)
below_words [] h = All-nil (λ x. x < 65536)
below_words (a ∷ []) h = All-nil (λ x. x < 65536)
below_words (a ∷ (b ∷ rest)) h =
    let t = two 256 a b rest h in
    All-cons (λ x. x < 65536) (a * 256 + b) (words_of rest) (omega (arith, t.0, t.1)) (below_words rest t.2)

pub sum_words_le : (xs : List ℕ) → Below 256 xs → 2 * sum (words_of xs) ≤ 65535 * length xs
sum_words_le [] h = omega arith
sum_words_le (a ∷ []) h = omega arith
sum_words_le (a ∷ (b ∷ rest)) h =
    let t = two 256 a b rest h in
    omega (arith, t.0, t.1, sum_words_le rest t.2, sum_by-cons (λ x. x) (a * 256 + b) (words_of rest))

-- the sum in ones' complement is the plain sum, folded
pub ones_folds : (ws : List ℕ) → Below 65536 ws → Folds (sum ws) (ones_sum ws)
ones_folds [] h = record { carries = 0; same = refl; small = omega arith; zero = λ e. refl }
ones_folds (w ∷ ws) h =
    let r = ones_folds ws (All-tail (λ x. x < 65536) w ws h) in
    record {
      carries = r.carries + (w + ones_sum ws) / 65536;
      same = omega (arith, r.same, sum_by-cons (λ x. x) w ws);
      small = omega (arith, r.small, All-head (λ x. x < 65536) w ws h);
      zero = λ e. omega (arith, r.zero (omega (arith, e)), sum_by-cons (λ x. x) w ws);
    }

pub folds_once : (n a b : ℕ) → Folds n a → Folds n b → a ≡ b
folds_once n a b p q =
    elim (cases_eq a 0) [
      | inl e ↦ omega (arith, p.zero e, q.same)
      | inr a-not ↦ elim (cases_eq b 0) [
        | inl e ↦ omega (arith, q.zero e, p.same)
        | inr b-not ↦ omega (arith, p.same, p.small, q.same, q.small, a-not, b-not)
      ]
    ]

pub checksum_is : (h : List ℕ) (s r : ℕ) → ((i : ℕ) → get_or h i 0 < 256) →
    s ≡ sum (words_of (take 10 h)) + sum (words_of (drop 12 h)) → Folds s r → 65535 - r ≡ checksum_of h
checksum_is h s r small e f =
    let b = All-from_get_or (λ x. x < 256) h 0 (λ k lt. small k) in
    let xs = words_of (take 10 h) in
    let ys = words_of (drop 12 h) in
    let words = All-append (λ x. x < 65536) xs ys (below_words _ (All-take (λ x. x < 256) 10 h b)) (below_words _ (All-drop (λ x. x < 256) 12 h b)) in
    let same : sum (xs ++ ys) ≡ s = sum_by-append (λ x. x) xs ys ∙ sym e in
    ap (λ n. 65535 - n) (folds_once s r (ones_sum (xs ++ ys)) f (rw same at (ones_folds (xs ++ ys) words)))
