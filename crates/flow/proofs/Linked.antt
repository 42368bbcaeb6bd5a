-- A loose row is linked in, in front of its new key's chain.
use Rattle.std.proofs.Common.{◌≡◌, ℕ, ◌+◌, ◌<◌, cond, eqb, ◌≢◌, List, [], ◌∷◌, length, get_or, set, sym, ap, ◌∙◌, subst, inl, inr, ⊎_elim, arith, length-set, get_or-set_other, get_or-set_same}
use lib.Seq.{map-set}
use Rattle.std.proofs.lemmas.Bool.{cases_eq, cond_both, cond-true, eqb-true, eqb-false, eq-eqb}
use Rattle.flow.specs.declared.row.Row.{Row}
use Rattle.flow.specs.Rows.{Among, Distinct, At, Keyed, Chain, Sound, Loose, links_of}
use Rattle.flow.proofs.Chains.{chain_below, at_same, link_at, at_other, at_new}

-- a write to a row that does not stand in a chain leaves it
pub chain_apart : (links : List ℕ) (used at i v : ℕ) (xs : List ℕ) → (Among i xs → ⊥) → Chain links used at xs → Chain (set links i v) used at xs
chain_apart links used at i v [] n c = simp length-set c
chain_apart links used at i v (x ∷ xs) n c =
    let ne : x ≢ i = λ e. n (inl (sym e)) in
    (c.0, c.1, rw get_or-set_other (chain_apart links used (get_or links x 0) i v xs (λ a. n (inr a)) c.2))

chain_grows : (links : List ℕ) (used at : ℕ) (xs : List ℕ) → Chain links used at xs → Chain links (used + 1) at xs
chain_grows links used at [] c = c
chain_grows links used at (x ∷ xs) c = (c.0, omega (arith, c.1), chain_grows links used (get_or links x 0) xs c.2)

-- the next free row is loose in a table of one row more
pub free_loose : {K M : Type 0} {spread : K → ℕ} {rows : List (Row K M)} {heads : List ℕ} {used : ℕ} → Sound spread rows heads used → used < length rows → Loose spread rows heads (used + 1) used
free_loose {rows = rows} {heads = heads} {used = used} s free = record {
  room = omega arith;
  few = s.few;
  all = s.all;
  chains = s.chains;
  linked = λ h l. chain_grows (links_of rows) used (get_or heads h 0) (s.chains h) (s.linked h l);
  apart = s.apart;
  out = λ h l a. let b = chain_below (links_of rows) used (get_or heads h 0) (s.chains h) (s.linked h l) used a in omega arith;
  stands = λ j k l n y. s.stands j k (omega arith) y;
  own = s.own;
  once = λ j m k l n p q y z. s.once j m k (omega arith) (omega arith) y z;
}

-- the chains with row i in front of chain h
abbrev fronted : (ℕ → List ℕ) → ℕ → ℕ → ℕ → List ℕ
fronted chains h i x = cond (eqb x h) (i ∷ chains x) (chains x)

module _ {K M : Type 0} {spread : K → ℕ} {rows : List (Row K M)} {heads : List ℕ} {used i : ℕ} (s : Loose spread rows heads used i) (row : Row K M) where
  module _ (new : (j : ℕ) → j < used → (j ≡ i → ⊥) → Keyed rows j row.key → ⊥) (here : i < used) (small : spread row.key < 64) (link : row.next ≡ get_or heads (spread row.key) 0) where
    abbrev h : ℕ
    h = spread row.key

    inside : i < length rows
    inside = let r = s.room in omega arith

    now_at : (j : ℕ) (k : K) → j ≡ i → Keyed (set rows i row) j k → row.key ≡ k
    now_at j k e y = ap (λ r. r.key) (at_same (set rows i row) i row y.0 (at_new rows i row inside) (subst (λ v. At (set rows i row) v y.0) e y.1)) ∙ y.2

    before : (j : ℕ) (k : K) → j ≢ i → Keyed (set rows i row) j k → Keyed rows j k
    before j k ne y = (y.0, at_other rows i row j y.0 ne y.1, y.2)

    stays : (x : ℕ) → x < 64 → Chain (links_of (set rows i row)) used (get_or heads x 0) (s.chains x)
    stays x l = rw map-set (chain_apart (links_of rows) used (get_or heads x 0) i row.next (s.chains x) (s.out x l) (s.linked x l))

    links_on : (x : ℕ) → x < 64 → Chain (links_of (set rows i row)) used (get_or (set heads h i) x 0) (fronted s.chains h i x)
    links_on x l =
        cond_both (eqb x h) _ _ (λ c. Chain (links_of (set rows i row)) used (get_or (set heads h i) x 0) c)
        (λ b.
        let e : x ≡ h = eqb-true x h b in
        let m : h < length heads = omega (arith, s.all) in
        let a : get_or (set heads h i) x 0 ≡ i = ap (λ y. get_or (set heads h i) y 0) e ∙ get_or-set_same heads h i 0 m in
        let n : get_or heads x 0 ≡ get_or (links_of (set rows i row)) i 0 = ap (λ y. get_or heads y 0) e ∙ sym link ∙ sym (link_at (set rows i row) i row (at_new rows i row inside)) in
        (a, here, subst (λ y. Chain (links_of (set rows i row)) used y (s.chains x)) n (stays x l)))
        (λ b.
        let ne : x ≢ h = eqb-false x h b in
        rw get_or-set_other (stays x l))

    apart_from : (x j : ℕ) → x < 64 → Among j (s.chains x) → j ≢ i
    apart_from x j l a e = s.out x l (subst (λ v. Among v (s.chains x)) e a)

    pub linked_in : Sound spread (set rows i row) (set heads h i) used
    linked_in = record {
      room = simp length-set s.room;
      few = simp length-set s.few;
      all = simp length-set s.all;
      chains = fronted s.chains h i;
      linked = links_on;
      apart = λ x l. cond_both (eqb x h) _ _ Distinct (λ b. (s.out x l, s.apart x l)) (λ b. s.apart x l);
      stands = λ j k l y. ⊎_elim
          (λ (e : j ≡ i). let q = now_at j k e y in
          rw (cond-true (eqb (spread k) h) (i ∷ s.chains (spread k)) (s.chains (spread k)) (eq-eqb (spread k) h (ap spread (sym q)))) (inl e))
          (λ (ne : j ≢ i). let a = s.stands j k l ne (before j k ne y) in
          cond_both (eqb (spread k) h) (i ∷ s.chains (spread k)) (s.chains (spread k)) (Among j) (λ b. inr a) (λ b. a))
          (cases_eq j i);
      own = λ x j k l a y.
          cond_both (eqb x h) (i ∷ s.chains x) (s.chains x) (λ c. Among j c → spread k ≡ x)
          (λ b. ⊎_elim (λ (e : j ≡ i). ap spread (sym (now_at j k e y)) ∙ sym (eqb-true x h b))
          (λ a. s.own x j k l a (before j k (apart_from x j l a) y)))
          (λ b a. s.own x j k l a (before j k (apart_from x j l a) y)) a;
      once = λ j m k l n y z. ⊎_elim
          (λ (e : j ≡ i). ⊎_elim (λ (f : m ≡ i). e ∙ sym f)
          (λ (nf : m ≢ i). absurd (new m n nf (subst (λ v. Keyed rows m v) (sym (now_at j k e y)) (before m k nf z)))) (cases_eq m i))
          (λ (ne : j ≢ i). ⊎_elim (λ (f : m ≡ i). absurd (new j l ne (subst (λ v. Keyed rows j v) (sym (now_at m k f z)) (before j k ne y))))
          (λ (nf : m ≢ i). s.once j m k l n ne nf (before j k ne y) (before m k nf z)) (cases_eq m i))
          (cases_eq j i);
    }
