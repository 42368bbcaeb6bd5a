-- A table with one more row, and with one row's meter replaced.
use Rattle.std.proofs.Common.{◌≡◌, ℕ, ◌+◌, ◌<◌, ◌≤◌, ◌≢◌, List, [], length, get_or, set, replicate, sym, refl, ap, ◌∙◌, subst, ⊎_elim, arith, length-set}
use lib.ListN.{length-map, get_or-replicate}
use lib.Seq.{map-set_same}
use Rattle.std.proofs.lemmas.Bool.{cases_eq}
use Rattle.flow.specs.declared.row.Row.{Row}
use Rattle.flow.specs.Rows.{At, Keyed, Sound, Absent, Put, links_of}
use Rattle.flow.proofs.Chains.{at_same, at_other, at_kept, at_new}
use Rattle.flow.proofs.Linked.{free_loose, linked_in}

module _ {K M : Type 0} {spread : K → ℕ} {rows : List (Row K M)} {heads : List ℕ} {used : ℕ} (s : Sound spread rows heads used) (row : Row K M) where
  module _ (new : Absent rows used row.key) (free : used < length rows) (small : spread row.key < 64) (link : row.next ≡ get_or heads (spread row.key) 0) where
    pub grown_sound : Sound spread (set rows used row) (set heads (spread row.key) used) (used + 1)
    grown_sound = linked_in (free_loose s free) row (λ j l ne y. new j (omega arith) y) (omega arith) small link

    meter_at_lem : (i : ℕ) (r : Row K M) → i ≡ used → At (set rows used row) i r → row ≡ r
    meter_at_lem i r e a = at_same (set rows used row) used row r (at_new rows used row free) (subst (λ j. At (set rows used row) j r) e a)

    pub grown_put : Put rows used (set rows used row) (used + 1) row.key row.meter
    grown_put = record {
      held = (used, row, omega arith, at_new rows used row free, refl, refl);
      only = λ n y. ⊎_elim
          (λ (e : y.0 ≡ used). sym y.5 ∙ ap (λ r. r.meter) (sym (meter_at_lem y.0 y.1 e y.3)))
          (λ (ne : y.0 ≢ used). absurd (new y.0 (omega (arith, y.2)) (y.1, at_other rows used row y.0 y.1 ne y.3, y.4)))
          (cases_eq y.0 used);
      kept = λ j n ne y. (y.0, y.1, omega (arith, y.2), at_kept rows used row y.0 y.1 (omega (arith, y.2)) y.3, y.4, y.5);
      nomore = λ j n ne y. ⊎_elim
          (λ (e : y.0 ≡ used). absurd (ne (sym y.4 ∙ ap (λ r. r.key) (sym (meter_at_lem y.0 y.1 e y.3)))))
          (λ (d : y.0 ≢ used). (y.0, y.1, omega (arith, y.2), at_other rows used row y.0 y.1 d y.3, y.4, y.5))
          (cases_eq y.0 used);
    }

-- the meter of row i is replaced
module _ {K M : Type 0} {spread : K → ℕ} {rows : List (Row K M)} {heads : List ℕ} {used : ℕ} (s : Sound spread rows heads used) (i : ℕ) (old row : Row K M) (a : At rows i old) (same : row.key ≡ old.key) (link : row.next ≡ old.next) where
  links_same : links_of (set rows i row) ≡ links_of rows
  links_same = map-set_same (λ r. r.next) rows i row old (link ∙ ap (λ r. r.next) a.1)

  is_row : (j : ℕ) (r : Row K M) → j ≡ i → At (set rows i row) j r → row ≡ r
  is_row j r e b = at_same (set rows i row) i row r (at_new rows i row a.0) (subst (λ x. At (set rows i row) x r) e b)

  is_old : (j : ℕ) (r : Row K M) → j ≡ i → At rows j r → old ≡ r
  is_old j r e b = at_same rows i old r a (subst (λ x. At rows x r) e b)

  keyed_back : (j : ℕ) (k : K) → Keyed (set rows i row) j k → Keyed rows j k
  keyed_back j k y = ⊎_elim
      (λ (e : j ≡ i). (old, subst (λ x. At rows x old) (sym e) a, sym same ∙ ap (λ r. r.key) (is_row j y.0 e y.1) ∙ y.2))
      (λ (ne : j ≢ i). (y.0, at_other rows i row j y.0 ne y.1, y.2))
      (cases_eq j i)

  pub keyed_on : (j : ℕ) (k : K) → Keyed rows j k → Keyed (set rows i row) j k
  keyed_on j k y = ⊎_elim
      (λ (e : j ≡ i). (row, subst (λ x. At (set rows i row) x row) (sym e) (at_new rows i row a.0), same ∙ ap (λ r. r.key) (is_old j y.0 e y.1) ∙ y.2))
      (λ (ne : j ≢ i). (y.0, at_kept rows i row j y.0 ne y.1, y.2))
      (cases_eq j i)

  pub metered_sound : Sound spread (set rows i row) heads used
  metered_sound = record {
    room = simp length-set s.room;
    few = simp length-set s.few;
    all = s.all;
    chains = s.chains;
    linked = λ h l. rw links_same (s.linked h l);
    apart = s.apart;
    stands = λ j k l y. s.stands j k l (keyed_back j k y);
    own = λ h j k l b y. s.own h j k l b (keyed_back j k y);
    once = λ j m k l n y z. s.once j m k l n (keyed_back j k y) (keyed_back m k z);
  }

  pub metered_put : i < used → Put rows used (set rows i row) used old.key row.meter
  metered_put h = record {
    held = (i, row, h, at_new rows i row a.0, same, refl);
    only = λ n y. ⊎_elim
        (λ (e : y.0 ≡ i). sym y.5 ∙ ap (λ r. r.meter) (sym (is_row y.0 y.1 e y.3)))
        (λ (ne : y.0 ≢ i). absurd (ne (s.once y.0 i old.key y.2 h (y.1, at_other rows i row y.0 y.1 ne y.3, y.4) (old, a, refl))))
        (cases_eq y.0 i);
    kept = λ j n d y. ⊎_elim
        (λ (e : y.0 ≡ i). absurd (d (sym y.4 ∙ ap (λ r. r.key) (sym (is_old y.0 y.1 e y.3)))))
        (λ (ne : y.0 ≢ i). (y.0, y.1, y.2, at_kept rows i row y.0 y.1 ne y.3, y.4, y.5))
        (cases_eq y.0 i);
    nomore = λ j n d y. ⊎_elim
        (λ (e : y.0 ≡ i). absurd (d (sym y.4 ∙ ap (λ r. r.key) (sym (is_row y.0 y.1 e y.3)) ∙ same)))
        (λ (ne : y.0 ≢ i). (y.0, y.1, y.2, at_other rows i row y.0 y.1 ne y.3, y.4, y.5))
        (cases_eq y.0 i);
  }

-- no row is used, and each head is past the rows
pub empty_sound : {K M : Type 0} (spread : K → ℕ) (rows : List (Row K M)) → length rows ≤ 4096 → Sound spread rows (replicate 64 65535) 0
empty_sound spread rows h = record {
  room = omega arith;
  few = h;
  all = refl;
  chains = λ x. [];
  linked = λ x l. rw (get_or-replicate {A = ℕ} 64 x 65535 0 l) (simp length-map (omega arith));
  apart = λ x l. tt;
  stands = λ i k l y. absurd (omega arith);
  own = λ x i k l a y. absurd a;
  once = λ i j k l m y z. absurd (omega arith);
}
