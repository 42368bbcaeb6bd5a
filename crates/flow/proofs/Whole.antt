-- That the rows and chains of a table are sound is kept as a mere fact. The links name the chains, so the chains come back from it.
use Rattle.std.proofs.Common.{◌≡◌, ℕ, zero, suc, ◌<◌, ◌≤◌, cond, ltb, ◌⊎◌, List, [], ◌∷◌, length, get_or, sym, refl, ap, ◌∙◌, subst, inl, inr, ⊎_elim, arith, true, false, leb}
use Rattle.std.proofs.Math.Logic.{∥∥₁_elim}
use borrow.Author.Tests.{leb-true, leb-false}
use Rattle.std.proofs.lemmas.Bool.{cases_eq, lt-ltb, le-ltb}
use Rattle.std.specs.Coded.{×_prop, Unit-prop, →_prop, le_prop, Coded-set, coded_ℕ}
use mathlib.Core.HLevel.{⊥_prop}
use lib.ListN.{length-map}
use Rattle.flow.specs.declared.row.Row.{Row}
use Rattle.flow.specs.declared.key.Key as keys
use Rattle.flow.specs.declared.table.FlowTable.{FlowTable}
use Rattle.flow.specs.Keys.{chain_of}
use Rattle.flow.specs.Tables.{rows_of}
use Rattle.flow.specs.Rows.{Among, Distinct, Chain, Sound, links_of}
use Rattle.flow.proofs.Chains.{few_below, chain_below}

-- the rows that follow one another from `at` on, at most n
abbrev pub walk : List ℕ → ℕ → ℕ → List ℕ
walk links zero at = []
walk links (suc n) at = cond (ltb at (length links)) (at ∷ walk links n (get_or links at 0)) []

walk_is : (links : List ℕ) (used n at : ℕ) (xs : List ℕ) → used ≤ length links → length xs ≤ n → Chain links used at xs → walk links n at ≡ xs
walk_is links used zero at [] room few c = refl
walk_is links used zero at (x ∷ xs) room few c = absurd (omega arith)
walk_is links used (suc n) at [] room few c = ap (λ b. cond b (at ∷ walk links n (get_or links at 0)) []) (le-ltb at (length links) c)
walk_is links used (suc n) at (x ∷ xs) room few c =
    ap (λ b. cond b (at ∷ walk links n (get_or links at 0)) []) (lt-ltb at (length links) (omega (arith, c.0, c.1)))
    ∙ ap (λ y. y ∷ walk links n (get_or links y 0)) c.0
    ∙ ap (λ ys. x ∷ ys) (walk_is links used n (get_or links x 0) xs room (omega arith) c.2)

Chain_prop : (links : List ℕ) (used at : ℕ) (xs : List ℕ) → IsProp (Chain links used at xs)
Chain_prop links used at [] = le_prop
Chain_prop links used at (x ∷ xs) = λ a b i. (Coded-set coded_ℕ at x a.0 b.0 i, le_prop a.1 b.1 i, Chain_prop links used (get_or links x 0) xs a.2 b.2 i)

Distinct_prop : (xs : List ℕ) → IsProp (Distinct xs)
Distinct_prop [] = Unit-prop
Distinct_prop (x ∷ xs) = ×_prop (→_prop ⊥_prop) (Distinct_prop xs)

among_or : (i : ℕ) (xs : List ℕ) → Among i xs ⊎ (Among i xs → ⊥)
among_or i [] = inr (λ a. a)
among_or i (x ∷ xs) =
    ⊎_elim
    (λ (e : i ≡ x). inl (inl e))
    (λ (ne : i ≡ x → ⊥). ⊎_elim (λ (a : Among i xs). inl (inr a)) (λ (na : Among i xs → ⊥). inr (⊎_elim ne na)) (among_or i xs))
    (cases_eq i x)

-- the rows of each chain
abbrev pub walked : {K M : Type 0} → List (Row K M) → List ℕ → ℕ → List ℕ
walked rows heads h = walk (links_of rows) (length rows) (get_or heads h 0)

module _ {K M : Type 0} {spread : K → ℕ} {rows : List (Row K M)} {heads : List ℕ} {used : ℕ} where
  walked_is : (s : Sound spread rows heads used) (h : ℕ) → h < 64 → s.chains h ≡ walked rows heads h
  walked_is s h l =
      let c = s.linked h l in
      let few = few_below used (s.chains h) (s.apart h l) (chain_below (links_of rows) used (get_or heads h 0) (s.chains h) c) in
      let room : used ≤ length (links_of rows) = let n = length-map rows (λ (r : Row K M). r.next) in omega (arith, s.room) in
      sym (walk_is (links_of rows) used (length rows) (get_or heads h 0) (s.chains h) room (omega (arith, s.room)) c)

  sound_of : ∥ Sound spread rows heads used ∥₁ → ((k : K) → spread k < 64) → Sound spread rows heads used
  sound_of t small = record {
    room = ∥∥₁_elim t le_prop (λ s. s.room);
    few = ∥∥₁_elim t le_prop (λ s. s.few);
    all = ∥∥₁_elim t (Coded-set coded_ℕ (length heads) 64) (λ s. s.all);
    chains = walked rows heads;
    linked = λ h l. ∥∥₁_elim t (Chain_prop (links_of rows) used (get_or heads h 0) (walked rows heads h)) (λ s. subst (Chain (links_of rows) used (get_or heads h 0)) (walked_is s h l) (s.linked h l));
    apart = λ h l. ∥∥₁_elim t (Distinct_prop (walked rows heads h)) (λ s. subst Distinct (walked_is s h l) (s.apart h l));
    stands = λ i k l y.
        ⊎_elim
        (λ (a : Among i (walked rows heads (spread k))). a)
        (λ (na : Among i (walked rows heads (spread k)) → ⊥). absurd (∥∥₁_elim t ⊥_prop (λ s. na (subst (Among i) (walked_is s (spread k) (small k)) (s.stands i k l y)))))
        (among_or i (walked rows heads (spread k)));
    own = λ h i k l a y. ∥∥₁_elim t (Coded-set coded_ℕ (spread k) h) (λ s. s.own h i k l (subst (Among i) (sym (walked_is s h l)) a) y);
    once = λ i j k l m y z. ∥∥₁_elim t (Coded-set coded_ℕ i j) (λ s. s.once i j k l m y z);
  }

pub sound : {K M : Type 0} {kind : keys.Ghosts K} (t : FlowTable K M kind) → Sound (λ k. chain_of (kind.bytes k)) (rows_of t) t.heads t.used
sound t = sound_of t.whole (λ k. omega arith)

-- a table that is full, and one that is not
module _ {K M : Type 0} {kind : keys.Ghosts K} (t : FlowTable K M kind) where
  pub is_full : true ≡ leb (length (rows_of t)) t.used → length (rows_of t) ≤ t.used
  is_full e = leb-true (length (rows_of t)) t.used (sym e)

  pub has_room : false ≡ leb (length (rows_of t)) t.used → t.used < length (rows_of t)
  has_room e = leb-false (length (rows_of t)) t.used (sym e)
