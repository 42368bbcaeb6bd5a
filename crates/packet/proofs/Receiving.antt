-- A receiver's check: all words of a right header sum to sixteen ones.
-- Assumes nothing.
use Rattle.std.proofs.Common.{◌≡◌, ℕ, zero, suc, ◌+◌, ◌*◌, ◌<◌, ◌≤◌, List, [], ◌∷◌, ◌++◌, length, take, drop, sum, refl, ap, ◌∙◌, arith}
use Rattle.std.proofs.lemmas.List.{length-take-le, length-drop, get_or-drop, get_or-take, drop-drop}
use Rattle.std.proofs.lemmas.List.Sums.{sum_by-cons, sum_by-append}
use Rattle.std.proofs.lemmas.List.Elements.{All-append, All-take, All-drop, All-from_get_or}
use Rattle.packet.specs.Layout.{byte, field16, words_of, ones_sum, header_length, header_bytes}
use Rattle.packet.specs.Sums.{Folds}
use Rattle.packet.specs.Laws.{SumFolds, WordsSumToOnes}
use Rattle.packet.proofs.Words.{below_words, sum_words_more, ones_folds, folds_once}
use Rattle.packet.proofs.Rights.{right_parts}

pub sum_folds : SumFolds
sum_folds ws h = ones_folds ws (All-from_get_or (λ x. x < 65536) ws 0 (λ i lt. h i))

abbrev twice : ℕ → ℕ
twice zero = zero
twice (suc n) = suc (suc (twice n))

-- words on both sides of an even place
sum_words_split : (n : ℕ) (xs : List ℕ) → sum (words_of xs) ≡ sum (words_of (take (twice n) xs)) + sum (words_of (drop (twice n) xs))
sum_words_split zero xs = omega arith
sum_words_split (suc n) [] = refl
sum_words_split (suc n) (a ∷ []) = refl
sum_words_split (suc n) (a ∷ (b ∷ rest)) =
    omega (arith, sum_words_split n rest, sum_by-cons (λ x. x) (a * 256 + b) (words_of rest), sum_by-cons (λ x. x) (a * 256 + b) (words_of (take (twice n) rest)))

pub words_sum_to_ones : WordsSumToOnes
words_sum_to_ones p small e =
    let h = header_bytes p in
    let r = right_parts p e in
    let long : length h ≡ header_length p = length-take-le (header_length p) p r.0.there in
    let room : 20 ≤ length h = omega (arith, long, r.0.words) in
    let xs = words_of (take 10 h) in
    let ys = words_of (drop 12 h) in
    let bytes = All-take (λ x. x < 256) (header_length p) p (All-from_get_or (λ x. x < 256) p 0 (λ i lt. small i)) in
    let others = ones_folds (xs ++ ys) (All-append (λ x. x < 65536) xs ys (below_words _ (All-take (λ x. x < 256) 10 h bytes)) (below_words _ (All-drop (λ x. x < 256) 12 h bytes))) in
    let high : byte (drop 10 h) 0 ≡ byte p 10 = get_or-drop 10 h 0 0 ∙ get_or-take (header_length p) p 10 0 (omega arith) in
    let low : byte (drop 10 h) 1 ≡ byte p 11 = get_or-drop 10 h 1 0 ∙ get_or-take (header_length p) p 11 0 (omega arith) in
    let rest : drop 2 (drop 10 h) ≡ drop 12 h = drop-drop 2 10 h in
    let second : sum (words_of (drop 10 h)) ≡ (byte (drop 10 h) 0 * 256 + byte (drop 10 h) 1) + sum ys =
    sum_words_more (drop 10 h) (omega (arith, length-drop 10 h)) ∙ ap (λ l. (byte (drop 10 h) 0 * 256 + byte (drop 10 h) 1) + sum (words_of l)) rest in
    let all : sum (words_of h) ≡ sum (xs ++ ys) + field16 p 10 =
    omega (arith, sum_words_split 5 h, second, high, low, sum_by-append (λ x. x) xs ys) in
    let ones : Folds (sum (words_of h)) 65535 = record {
      carries = others.carries;
      same = omega (arith, all, r.1, others.same, others.small);
      small = omega arith;
      zero = λ z. absurd (omega arith);
    } in
    folds_once (sum (words_of h)) (ones_sum (words_of h)) 65535 (ones_folds (words_of h) (below_words h bytes)) ones
