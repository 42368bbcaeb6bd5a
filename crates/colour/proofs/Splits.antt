-- The first word of a text.
use Rattle.std.proofs.Common.{◌≡◌, ℕ, ◌+◌, ◌-◌, ◌<◌, Bool, true, false, not, cond, ltb, List, [], ◌∷◌, ◌++◌, length, take, drop, Some, None, sym, refl, ap, ◌∙◌, append_assoc, append-nil, arith, length-drop, position, unwrap_or}
use Rattle.std.proofs.Math.Numerals.{one-add}
use Rattle.std.specs.List.{position_or_len}
use Rattle.std.proofs.lemmas.List.{take_all}
use Rattle.std.proofs.lemmas.List.Sums.{prefix_len-le-length}
use Rattle.std.proofs.lemmas.List.Quantifiers.{position-Some}
use Rattle.std.proofs.lemmas.Bool.{cond-true, cond-false, ltb-false}
use Rattle.colour.specs.Words.{blank, begun, words_on, words}

-- how many blanks stand in front, and how many bytes before the first blank
abbrev pub blanks : List ℕ → ℕ
blanks t = position_or_len (λ b. not (blank b)) t

abbrev pub word_length : List ℕ → ℕ
word_length t = position_or_len blank t

-- blanks in front are no word
words_past_blanks : (t : List ℕ) → words_on [] t ≡ words_on [] (drop (blanks t) t)
words_past_blanks [] = refl
words_past_blanks (b ∷ t) = go (blank b) refl (words_past_blanks t)
  where
    go : (v : Bool) → blank b ≡ v → words_on [] t ≡ words_on [] (drop (blanks t) t) → cond v (words_on [] t) (words_on (b ∷ []) t) ≡ words_on [] (drop (cond (not (not v)) (1 + blanks t) 0) (b ∷ t))
    go true e h = simp one-add h
    go false e h = sym (cond-false (blank b) (words_on [] t) (words_on (b ∷ []) t) e)

-- a word that has begun goes up to the first blank
words_behind : (w t : List ℕ) → words_on w t ≡ begun (w ++ take (word_length t) t) (words_on [] (drop (word_length t) t))
words_behind w [] = ap (λ l. begun l []) (sym (append-nil w))
words_behind w (b ∷ t) = go (blank b) refl (words_behind (w ++ (b ∷ [])) t)
  where
    go : (v : Bool) → blank b ≡ v → words_on (w ++ (b ∷ [])) t ≡ begun ((w ++ (b ∷ [])) ++ take (word_length t) t) (words_on [] (drop (word_length t) t)) → cond v (begun w (words_on [] t)) (words_on (w ++ (b ∷ [])) t) ≡ begun (w ++ take (cond (not v) (1 + word_length t) 0) (b ∷ t)) (words_on [] (drop (cond (not v) (1 + word_length t) 0) (b ∷ t)))
    go true e h =
        sym (ap (λ l. begun l (words_on [] (b ∷ t))) (append-nil w) ∙ ap (begun w) (cond-true (blank b) (words_on [] t) (words_on (b ∷ []) t) e))
    go false e h =
        simp one-add (h ∙ ap (λ l. begun l (words_on [] (drop (word_length t) t))) (append_assoc w (b ∷ []) (take (word_length t) t)))

-- what follows the blanks in front begins with none
blanks_end : (t : List ℕ) (b : ℕ) (r : List ℕ) → drop (blanks t) t ≡ b ∷ r → blank b ≡ false
blanks_end [] b r e = cc
blanks_end (c ∷ t) b r e = go (blank c) refl (blanks_end t b r) e
  where
    go : (v : Bool) → blank c ≡ v → (drop (blanks t) t ≡ b ∷ r → blank b ≡ false) → drop (cond (not (not v)) (1 + blanks t) 0) (c ∷ t) ≡ b ∷ r → blank b ≡ false
    go true e again h = again (simp one-add at h)
    go false e again h = let same : b ≡ c = cc in ap blank same ∙ e

words_first : (t r : List ℕ) → r ≡ drop (blanks t) t → 0 < length r → words t ≡ take (word_length r) r ∷ words (drop (word_length r) r)
unfolding words
words_first t [] e h = absurd (omega arith)
words_first t (b ∷ r) e h = words_past_blanks t ∙ ap (words_on []) (sym e) ∙ words_behind [] (b ∷ r) ∙ go (blank b) (blanks_end t b r (sym e))
  where
    go : (v : Bool) → v ≡ false → begun (take (cond (not v) (1 + word_length r) 0) (b ∷ r)) (words_on [] (drop (cond (not v) (1 + word_length r) 0) (b ∷ r))) ≡ take (cond (not v) (1 + word_length r) 0) (b ∷ r) ∷ words_on [] (drop (cond (not v) (1 + word_length r) 0) (b ∷ r))
    go true e = cc
    go false e = simp one-add

words_none : (t r : List ℕ) → r ≡ drop (blanks t) t → length r ≡ 0 → words t ≡ []
unfolding words
words_none t [] e h = words_past_blanks t ∙ ap (words_on []) (sym e)
words_none t (b ∷ r) e h = absurd (omega arith)

-- a first place, as a number
position_cases : (p : ℕ → Bool) (t : List ℕ) → unwrap_or (position p t) (length t) ≡ position_or_len p t
position_cases p t = go (ltb (position_or_len p t) (length t)) refl
  where
    go : (v : Bool) → ltb (position_or_len p t) (length t) ≡ v → unwrap_or (cond v (Some (position_or_len p t)) None) (length t) ≡ position_or_len p t
    go true e = refl
    go false e = omega (arith, ltb-false (position_or_len p t) (length t) e, prefix_len-le-length (λ b. not (p b)) t)

-- nothing but blanks
pub words_end : (t : List ℕ) → position (λ b. not (blank b)) t ≡ None → words t ≡ []
words_end t e =
    let all : blanks t ≡ length t = sym (position_cases (λ b. not (blank b)) t) ∙ ap (λ o. unwrap_or o (length t)) e in
    words_none t (drop (blanks t) t) refl (simp length-drop (omega arith))

-- what stands from a place on, as `&t[start..]` gives it
abbrev pub tail : List ℕ → ℕ → List ℕ
tail t start = take (length t - start) (drop start t)

-- the first word, from the first byte that is no blank up to the first blank behind it
pub words_split : (t : List ℕ) (start end : ℕ) → position (λ b. not (blank b)) t ≡ Some start → end ≡ unwrap_or (position blank (tail t start)) (length (tail t start)) → words t ≡ take end (tail t start) ∷ words (drop end (tail t start))
words_split t start end e ends =
    let r = tail t start in
    let some : start < length t = (position-Some (λ b. not (blank b)) t start 0 e).0 in
    let is : r ≡ drop start t = take_all (length t - start) (drop start t) (simp length-drop (omega arith)) in
    let more : 0 < length r = rw is (simp length-drop (omega arith)) in
    let from : start ≡ blanks t = ap (λ o. unwrap_or o (length t)) (sym e) ∙ position_cases (λ b. not (blank b)) t in
    words_first t r (is ∙ ap (λ n. drop n t) from) more ∙ ap (λ n. take n r ∷ words (drop n r)) (sym (ends ∙ position_cases blank r))
