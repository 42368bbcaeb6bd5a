-- Lists of distinct numbers below a bound; rows under a write; a walk along a chain.
use Rattle.std.proofs.Common.{◌≡◌, ℕ, zero, suc, ◌+◌, ◌<◌, ◌≤◌, false, ◌≢◌, ◌⊎◌, List, [], ◌∷◌, length, get_or, set, is_some, Some, None, Option, sym, refl, ap, ◌∙◌, subst, inl, inr, ⊎_elim, arith, length-set, get_or-set_other, get_or-set_same}
use lib.ListN.{length-map, get_or-map}
use borrow.Rule.Slice.AtParam.{at_default, twice}
use Rattle.std.proofs.lemmas.Bool.{cases_eq}
use Rattle.flow.specs.declared.row.Row.{Row}
use Rattle.flow.specs.Rows.{Among, Distinct, At, Keyed, Chain, Sound, Absent, Found, links_of}

without : (v : ℕ) (xs : List ℕ) → Distinct xs
    → (ys : List ℕ) × (length xs ≤ suc (length ys)) × Distinct ys × ((i : ℕ) → Among i ys → Among i xs) × (Among v ys → ⊥)
without v [] d = ([], omega arith, tt, λ i a. a, λ a. a)
without v (x ∷ xs) d =
    let r = without v xs d.1 in
    ⊎_elim
    (λ (e : x ≡ v). (xs, omega arith, d.1, λ i a. inr a, λ a. d.0 (subst (λ n. Among n xs) (sym e) a)))
    (λ (ne : x ≡ v → ⊥). (x ∷ r.0, omega (arith, r.1), (λ a. d.0 (r.3 x a), r.2), λ i. ⊎_elim inl (λ a. inr (r.3 i a)), ⊎_elim (λ e. ne (sym e)) r.4))
    (cases_eq x v)

-- no more distinct numbers lie below n than n
pub few_below : (n : ℕ) (xs : List ℕ) → Distinct xs → ((i : ℕ) → Among i xs → i < n) → length xs ≤ n
few_below n [] d h = omega arith
few_below zero (x ∷ xs) d h = let l : x < 0 = h x (inl refl) in omega arith
few_below (suc n) (x ∷ xs) d h =
    let w = without n (x ∷ xs) d in
    let below : (i : ℕ) → Among i w.0 → i < n = λ i a.
    let l : i < suc n = h i (w.3 i a) in
    let ne : i ≢ n = λ e. w.4 (subst (λ m. Among m w.0) e a) in
    omega arith in
    omega (arith, few_below n w.0 w.2 below, w.1)

pub chain_below : (links : List ℕ) (used at : ℕ) (xs : List ℕ) → Chain links used at xs → (i : ℕ) → Among i xs → i < used
chain_below links used at [] c i a = absurd a
chain_below links used at (x ∷ xs) c i (inl e) = omega (arith, c.1)
chain_below links used at (x ∷ xs) c i (inr a) = chain_below links used (get_or links x 0) xs c.2 i a

module _ {K M : Type 0} (rows : List (Row K M)) where
  pub at_same : (i : ℕ) (r s : Row K M) → At rows i r → At rows i s → r ≡ s
  at_same i r s a b = at_default rows i r s a.1 a.0 ∙ sym b.1

  pub link_at : (i : ℕ) (r : Row K M) → At rows i r → get_or (links_of rows) i 0 ≡ r.next
  link_at i r a =
      let h : i < length (links_of rows) = simp length-map a.0 in
      let e : get_or (links_of rows) i r.next ≡ get_or (links_of rows) i 0 = at_default (links_of rows) i (get_or (links_of rows) i r.next) 0 (twice (links_of rows) i r.next) h in
      sym e ∙ get_or-map (λ x. x.next) rows i r ∙ ap (λ x. x.next) (sym a.1)

  module _ (u : ℕ) (x : Row K M) where
    pub at_other : (i : ℕ) (r : Row K M) → i ≢ u → At (set rows u x) i r → At rows i r
    at_other i r ne a = (simp length-set at a.0, a.1 ∙ get_or-set_other rows u i x r ne)

    pub at_kept : (i : ℕ) (r : Row K M) → i ≢ u → At rows i r → At (set rows u x) i r
    at_kept i r ne a = (simp length-set a.0, a.1 ∙ sym (get_or-set_other rows u i x r ne))

    pub at_new : u < length rows → At (set rows u x) u x
    at_new h = (simp length-set h, sym (get_or-set_same rows u x x h))

-- a walk for the key k that stands at `at` after n turns: what it has yet to meet, with the key's row if there is one
abbrev pub Left : {K M : Type 0} → List (Row K M) → ℕ → K → ℕ → ℕ → Type 0
Left rows used k at n =
    (rest : List ℕ) × Chain (links_of rows) used at rest × (length rest + n ≤ used) × ((i : ℕ) → i < used → Keyed rows i k → Among i rest)

module _ {K M : Type 0} {spread : K → ℕ} {rows : List (Row K M)} {heads : List ℕ} {used : ℕ} (s : Sound spread rows heads used) (k : K) where
  pub left_start : spread k < 64 → Left rows used k (get_or heads (spread k) 0) 0
  left_start h =
      let c = s.linked (spread k) h in
      let below = chain_below (links_of rows) used (get_or heads (spread k) 0) (s.chains (spread k)) c in
      (s.chains (spread k), c, omega (arith, few_below used (s.chains (spread k)) (s.apart (spread k) h) below), λ i l y. s.stands i k l y)

  -- within the rows the walk stands on a used row, and the next turn has one row less to meet
  meets : (at n : ℕ) (rest : List ℕ) → Chain (links_of rows) used at rest → length rest + n ≤ used → ((i : ℕ) → i < used → Keyed rows i k → Among i rest)
      → (r : Row K M) → At rows at r → (at < used) × ((r.key ≡ k → ⊥) → Left rows used k r.next (n + 1))
  meets at n [] c l f r a = absurd (let e = length-map rows (λ (x : Row K M). x.next) in omega (arith, c, a.0))
  meets at n (x ∷ xs) c l f r a = (
    omega (arith, c.0, c.1),
    λ ne.
        let e : get_or (links_of rows) x 0 ≡ r.next = ap (λ i. get_or (links_of rows) i 0) (sym c.0) ∙ link_at rows at r a in
        let on : (i : ℕ) → i < used → Keyed rows i k → Among i xs = λ i h y. ⊎_elim
        (λ (q : i ≡ x). absurd (ne (ap (λ v. v.key) (at_same rows at r y.0 a (subst (λ j. At rows j y.0) (q ∙ sym c.0) y.1)) ∙ y.2)))
        (λ z. z) (f i h y) in
        (xs, subst (λ j. Chain (links_of rows) used j xs) e c.2, omega arith, on),
  )

  pub left_more : (at n : ℕ) → Left rows used k at n → (r : Row K M) → At rows at r → (r.key ≡ k → ⊥) → Left rows used k r.next (n + 1)
  left_more at n w r a ne = (meets at n w.0 w.1 w.2 w.3 r a).1 ne

  pub left_used : (at n : ℕ) → Left rows used k at n → (r : Row K M) → At rows at r → at < used
  left_used at n w r a = (meets at n w.0 w.1 w.2 w.3 r a).0

  none_of : (at n : ℕ) (rest : List ℕ) → Chain (links_of rows) used at rest → length rest + n ≤ used → ((i : ℕ) → i < used → Keyed rows i k → Among i rest)
      → (length rows ≤ at) ⊎ (length rows ≤ n) → Absent rows used k
  none_of at n [] c l f o i h y = f i h y
  none_of at n (x ∷ xs) c l f (inl o) i h y = absurd (omega (arith, c.0, c.1, s.room))
  none_of at n (x ∷ xs) c l f (inr o) i h y = absurd (omega (arith, s.room))

  pub left_none : (at n : ℕ) → Left rows used k at n → (length rows ≤ at) ⊎ (length rows ≤ n) → Absent rows used k
  left_none at n w o = none_of at n w.0 w.1 w.2 w.3 o

-- a search that found nothing says that there is nothing
pub none_found : {K M : Type 0} (rows : List (Row K M)) (used : ℕ) (k : K) (r : Option ℕ) → false ≡ is_some r → Found rows used k r → Absent rows used k
none_found rows used k None e f = f
none_found rows used k (Some i) e f = cc
