-- Counts over a history: one entry more, how large they can be, and the law of the line. Assumes nothing.
use Rattle.std.proofs.Common.{◌≡◌, ℕ, ◌+◌, ◌*◌, ◌<◌, ◌≤◌, min, Bool, true, false, cond, ◌&&◌, [], ◌∷◌, ◌++◌, length, Ok, Err, refl, ap, ◌∙◌, arith}
use Rattle.std.specs.Prelude.{sum_by, count_by}
use Rattle.std.proofs.lemmas.List.Sums.{sum_by-cons, sum_by-le, sum_by_push, count_by-le-length}
use Rattle.meter.specs.declared.measures.Colour.TheVariants.{Green, Yellow}
use Rattle.history.specs.Answers.{Answer, carried_green}
use Rattle.history.specs.Histories.{Entry, History}
use Rattle.totals.specs.declared.rows.Count.{Count}
use Rattle.totals.specs.Totals.{most_offered, is_yellow, green_in, yellow_in, denies, refusal_in, size_if, count_of, LineLaw, AllSmall, top, one_more}

abbrev one_if : (Entry → Bool) → Entry → ℕ
one_if p e = cond (p e) 1 0

abbrev made : ℕ → ℕ → Count
made a b = record { packets = a; bytes = b }

count_is : (a b x y : ℕ) → a ≡ b → x ≡ y → made a x ≡ made b y
count_is a b x y p q = ap (λ v. made v x) p ∙ ap (made b) q

size_small : (p : Entry → Bool) (e : Entry) → e.offer.size ≤ 65535 → size_if p e ≤ 65535
size_small p e le = elim (p e) as (λ b. cond b e.offer.size 0 ≤ 65535) [ true ↦ le | false ↦ omega arith ]

module _ (p : Entry → Bool) (h : History) (e : Entry) where
  pub number_same : p e ≡ false → count_by p h ≡ count_by p (h ++ (e ∷ []))
  number_same out =
      let more = sum_by_push (one_if p) h e in
      let none : one_if p e ≡ 0 = ap (λ b. cond b 1 0) out in
      omega arith

  pub count_same : p e ≡ false → count_of p h ≡ count_of p (h ++ (e ∷ []))
  count_same out =
      let more = sum_by_push (size_if p) h e in
      let none : size_if p e ≡ 0 = ap (λ b. cond b e.offer.size 0) out in
      count_is _ _ _ _ (number_same out) (omega arith)

  module _ (few : length h < most_offered) (yes : p e ≡ true) where
    -- no number comes near the largest
    pub number_more : min (count_by p h + 1) top ≡ count_by p (h ++ (e ∷ []))
    number_more =
        let more = sum_by_push (one_if p) h e in
        let one : one_if p e ≡ 1 = ap (λ b. cond b 1 0) yes in
        let low = count_by-le-length p h in
        omega arith

    pub count_more : AllSmall h → e.offer.size ≤ 65535 → one_more (count_of p h) e.offer.size ≡ count_of p (h ++ (e ∷ []))
    count_more all le =
        let more = sum_by_push (size_if p) h e in
        let its : size_if p e ≡ e.offer.size = ap (λ b. cond b e.offer.size 0) yes in
        let low : sum_by (size_if p) h ≤ length h * 65535 = sum_by-le (size_if p) 65535 h (λ k d lt. size_small p _ (all k d lt)) in
        count_is _ _ _ _ number_more (omega arith)

each_one : (a : Answer) → (cond (true && carried_green a) 1 0 + cond (true && is_yellow a) 1 0) + cond (denies 0 a) 1 0 ≡ 1
each_one (Ok Green) = refl
each_one (Ok Yellow) = refl
each_one (Err e) = refl

pub line_law : LineLaw
line_law g [] = refl
line_law g (e ∷ h) =
    let greens = sum_by-cons (one_if (green_in g 0)) e h in
    let yellows = sum_by-cons (one_if (yellow_in g 0)) e h in
    let refusals = sum_by-cons (one_if (refusal_in 0)) e h in
    omega (arith, each_one e.answer, line_law g h)
