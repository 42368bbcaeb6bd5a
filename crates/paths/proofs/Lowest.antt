-- The lowest layer that does not pass, by the place of the first. Assumes nothing.
use Rattle.std.proofs.Common.{◌≡◌, ℕ, suc, ◌+◌, Bool, true, false, not, cond, ltb, List, [], ◌∷◌, length, get_or, Some, None, Option, refl, ap, ◌∙◌, arith}
use Rattle.std.proofs.lemmas.Bool.Decides.{nat_tests}
use Rattle.std.specs.List.{position, position_or_len}
use Rattle.std.specs.Prelude.{option_map}
use Rattle.paths.specs.declared.layers.Place.{Place}
use Rattle.paths.specs.Layers.{lowest, place}

module _ (p : ℕ → Bool) where
  abbrev passed : List ℕ → ℕ
  passed ks = position_or_len (λ k. not (p k)) ks

  abbrev at : ℕ → List ℕ → ℕ → Option Place
  at s ks n = cond (ltb n (length ks)) (Some (place (s + n) (get_or ks n 0))) None

  onward : (s k : ℕ) (ks : List ℕ) (n : ℕ) → at (s + 1) ks n ≡ at s (k ∷ ks) (1 + n)
  onward s k ks n =
      let e : suc n ≡ 1 + n = omega arith in
      let f : (s + 1) + n ≡ s + suc n = omega arith in
      let b : ltb n (length ks) ≡ ltb (suc n) (suc (length ks)) = grind (arith, nat_tests) in
      ap (λ v. cond (ltb n (length ks)) (Some (place v (get_or ks n 0))) None) f
      ∙ ap (λ t. cond t (Some (place (s + suc n) (get_or ks n 0))) None) b ∙ ap (at s (k ∷ ks)) e

  here : (s k : ℕ) (ks : List ℕ) → Some (place s k) ≡ at s (k ∷ ks) 0
  here s k ks =
      let f : s ≡ s + 0 = omega arith in
      let b : true ≡ ltb 0 (suc (length ks)) = grind (arith, nat_tests) in
      ap (λ v. Some (place v k)) f ∙ ap (λ t. cond t (Some (place (s + 0) k)) None) b

  lowest_at : (s : ℕ) (ks : List ℕ) → lowest p s ks ≡ at s ks (passed ks)
  lowest_at s [] = refl
  lowest_at s (k ∷ ks) = by (p k) (lowest_at (s + 1) ks)
    where
      by : (b : Bool) → lowest p (s + 1) ks ≡ at (s + 1) ks (passed ks) → cond b (lowest p (s + 1) ks) (Some (place s k)) ≡ at s (k ∷ ks) (cond (not (not b)) (1 + passed ks) 0)
      by true rest = rest ∙ onward s k ks (passed ks)
      by false rest = here s k ks

  pub lowest_position : (ks : List ℕ) → lowest p 0 ks ≡ option_map (λ i. place i (get_or ks i 0)) (position (λ k. not (p k)) ks)
  lowest_position ks = lowest_at 0 ks ∙ elim (ltb (passed ks) (length ks)) as (λ b. cond b (Some (place (0 + passed ks) (get_or ks (passed ks) 0))) None ≡ option_map (λ i. place i (get_or ks i 0)) (cond b (Some (passed ks)) None))
      [ true ↦ ap (λ v. Some (place v (get_or ks (passed ks) 0))) (omega arith) | false ↦ refl ]
