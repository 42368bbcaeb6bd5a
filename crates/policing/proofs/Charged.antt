-- The nodes after a charge along a path: each node of the path once, and no other. Assumes nothing.
use Rattle.std.proofs.Common.{◌≡◌, ℕ, zero, suc, ◌-◌, ◌<◌, Bool, true, false, cond, eqb, List, [], ◌∷◌, map, length, set, Some, None, Ok, Err, Option, Result, sym, refl, ap, ◌∙◌, ⊎_elim, arith, length-set}
use lib.Seq.{map-set_same}
use Rattle.std.proofs.lemmas.Bool.{cases_eq, eq-eqb, ne_eqb}
use Rattle.std.proofs.lemmas.Option.{get_or_from_slice_get}
use Rattle.std.specs.List.{slice_get}
use Rattle.meter.specs.declared.measures.Colour.{Colour}
use Rattle.meter.specs.declared.measures.Refusal.{Refusal}
use Rattle.meter.specs.declared.measures.State.{State}
use Rattle.meter.specs.Rules.{charged, terms_of}
use Rattle.meter.proofs.Keeps.{charged_terms}
use Rattle.policy.proofs.Ancestry.{Falls}
use Rattle.meter.specs.declared.measures.Load.{Load}
use Rattle.paths.specs.Layers.{after_charge, left_by, put_left, charged_node, charged_nodes}
use Rattle.history.specs.Histories.{among}
use Rattle.history.proofs.Pathing.{among_above}

nth_set_same : {X : Type 0} (xs : List X) (i : ℕ) (x y : X) → slice_get xs i ≡ Some x → slice_get (set xs i y) i ≡ Some y
nth_set_same [] i x y e = cc
nth_set_same (a ∷ xs) zero x y e = refl
nth_set_same (a ∷ xs) (suc i) x y e = nth_set_same xs i x y e

nth_set_other : {X : Type 0} (xs : List X) (i j : ℕ) (y : X) → (i ≡ j → ⊥) → slice_get (set xs i y) j ≡ slice_get xs j
nth_set_other [] i j y n = refl
nth_set_other (a ∷ xs) zero zero y n = absurd (n refl)
nth_set_other (a ∷ xs) zero (suc j) y n = refl
nth_set_other (a ∷ xs) (suc i) zero y n = refl
nth_set_other (a ∷ xs) (suc i) (suc j) y n = nth_set_other xs i j y (λ e. n (ap suc e))

module _ (o : Load) (c : Colour) where
  -- a meter that is there is charged
  abbrev pub left_in : Option State → Option State
  left_in None = None
  left_in (Some m) = Some (left_by o c m)

  left_terms : (m : State) → terms_of (left_by o c m) ≡ terms_of m
  left_terms m = go (charged m o.size.0 o.moment.0 c) refl
    where
      go : (r : Result State Refusal) → charged m o.size.0 o.moment.0 c ≡ r → terms_of (after_charge m r) ≡ terms_of m
      go (Ok s) e = charged_terms m s o.size.0 o.moment.0 c e
      go (Err x) e = refl

  put_terms : (ms : List State) (i : ℕ) (s : Option State) → slice_get ms i ≡ s → map terms_of (put_left o c ms i s) ≡ map terms_of ms
  put_terms ms i None e = refl
  put_terms ms i (Some m) e = map-set_same terms_of ms i (left_by o c m) m (left_terms m ∙ ap terms_of (sym (get_or_from_slice_get ms i m m e)))

  node_terms_lem : (ms : List State) (k : ℕ) → map terms_of (charged_node o c ms k) ≡ map terms_of ms
  node_terms_lem ms k = go (eqb k 0)
    where
      go : (b : Bool) → map terms_of (cond b ms (put_left o c ms (k - 1) (slice_get ms (k - 1)))) ≡ map terms_of ms
      go true = refl
      go false = put_terms ms (k - 1) (slice_get ms (k - 1)) refl

  pub nodes_terms : (ms : List State) (ks : List ℕ) → map terms_of (charged_nodes o c ms ks) ≡ map terms_of ms
  nodes_terms ms [] = refl
  nodes_terms ms (k ∷ ks) = nodes_terms (charged_node o c ms k) ks ∙ node_terms_lem ms k

  put_length : (ms : List State) (i : ℕ) (s : Option State) → length (put_left o c ms i s) ≡ length ms
  put_length ms i None = refl
  put_length ms i (Some m) = length-set ms i (left_by o c m)

  pub nodes_length : (ms : List State) (ks : List ℕ) → length (charged_nodes o c ms ks) ≡ length ms
  nodes_length ms [] = refl
  nodes_length ms (k ∷ ks) = nodes_length (charged_node o c ms k) ks ∙ go (eqb k 0)
    where
      go : (b : Bool) → length (cond b ms (put_left o c ms (k - 1) (slice_get ms (k - 1)))) ≡ length ms
      go true = refl
      go false = put_length ms (k - 1) (slice_get ms (k - 1))

  put_same : (ms : List State) (i : ℕ) (s : Option State) → slice_get ms i ≡ s → slice_get (put_left o c ms i s) i ≡ left_in s
  put_same ms i None e = e
  put_same ms i (Some m) e = nth_set_same ms i m (left_by o c m) e

  put_other : (ms : List State) (i j : ℕ) (s : Option State) → (i ≡ j → ⊥) → slice_get (put_left o c ms i s) j ≡ slice_get ms j
  put_other ms i j None n = refl
  put_other ms i j (Some m) n = nth_set_other ms i j (left_by o c m) n

  node_is : (ms : List State) (k : ℕ) → 0 < k → charged_node o c ms k ≡ put_left o c ms (k - 1) (slice_get ms (k - 1))
  node_is ms k pos = ap (λ b. cond b ms (put_left o c ms (k - 1) (slice_get ms (k - 1)))) (ne_eqb k 0 (λ e. omega arith))

  pub charged_at : (ms : List State) (b : ℕ) (ks : List ℕ) (j : ℕ) → Falls b ks → 0 < j → slice_get (charged_nodes o c ms ks) (j - 1) ≡ cond (among j ks) (left_in (slice_get ms (j - 1))) (slice_get ms (j - 1))
  charged_at ms b [] j f pos = refl
  charged_at ms b (k ∷ ks) j f pos =
      let after = charged_node o c ms k in
      let is = node_is ms k f.0 in
      let more = charged_at after k ks j f.2 pos in
      ⊎_elim
      (λ (e : j ≡ k).
      let out : among j ks ≡ false = among_above k j ks f.2 (omega arith) in
      let here : slice_get after (j - 1) ≡ left_in (slice_get ms (j - 1)) = ap (λ v. slice_get after (v - 1)) e ∙ ap (λ l. slice_get l (k - 1)) is ∙ put_same ms (k - 1) (slice_get ms (k - 1)) refl ∙ ap (λ v. left_in (slice_get ms (v - 1))) (sym e) in
      more ∙ ap (λ v. cond v (left_in (slice_get after (j - 1))) (slice_get after (j - 1))) out ∙ here
      ∙ sym (ap (λ v. cond (cond v true (among j ks)) (left_in (slice_get ms (j - 1))) (slice_get ms (j - 1))) (eq-eqb j k e)))
      (λ (ne : j ≡ k → ⊥).
      let apart : k - 1 ≡ j - 1 → ⊥ = λ e. ne (omega (arith, f.0)) in
      let there : slice_get after (j - 1) ≡ slice_get ms (j - 1) = ap (λ l. slice_get l (j - 1)) is ∙ put_other ms (k - 1) (j - 1) (slice_get ms (k - 1)) apart in
      more ∙ ap (λ v. cond (among j ks) (left_in v) v) there
      ∙ sym (ap (λ v. cond (cond v true (among j ks)) (left_in (slice_get ms (j - 1))) (slice_get ms (j - 1))) (ne_eqb j k ne)))
      (cases_eq j k)
