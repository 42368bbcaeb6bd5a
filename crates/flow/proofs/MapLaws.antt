-- The laws of the map, and the table that is one.
-- Assumes nothing.
use Rattle.std.proofs.Common.{◌≡◌, ℕ, ◌+◌, ◌<◌, Bool, true, false, cond, ◌||◌, ltb, ◌⊎◌, List, [], ◌∷◌, ◌++◌, length, get_or, drop, is_some, Some, None, Ok, Err, Option, Result, sym, refl, ap, ◌∙◌, subst, inl, inr, ⊎_elim, append_assoc, arith}
use Rattle.std.proofs.lemmas.List.{at_drop_more}
use Rattle.std.proofs.lemmas.Slice.Eq.{bytes_eq-Decides}
use Rattle.std.proofs.lemmas.Bool.{cases_Bool, lt-ltb, le-ltb}
use Rattle.std.specs.Option.{ok_or}
use Rattle.flow.specs.declared.key.Key as keys
use Rattle.flow.specs.declared.row.Call.{Call}
use Rattle.flow.specs.declared.row.Reply.{Reply}
use Rattle.flow.specs.declared.row.Unplaced.{Unplaced}
use Rattle.flow.specs.declared.row.Unplaced.TheVariants.{Full}
use Rattle.flow.specs.declared.table.FlowTable.{FlowTable}
use Rattle.flow.specs.Tables.{rows_of, Held, Missing, RowOf, Same, Read, Replaces, Places, Puts}
use Rattle.flow.specs.Maps.{Entry, entry, alike, placed, lookup, put, Mapped, fits, reply_to, after_call, replies, after_all}

no : {P : Type 0} → true ≡ false → P
no e = cc

module _ {K : Type 0} (bytes : K → List ℕ) (told : (j k : K) → bytes j ≡ bytes k → j ≡ k) where
  alike_true : (j k : K) → alike bytes j k ≡ true → j ≡ k
  alike_true j k e = told j k ((bytes_eq-Decides (bytes j) (bytes k)).0 e)

  alike_refl : (j k : K) → j ≡ k → alike bytes j k ≡ true
  alike_refl j k e = (bytes_eq-Decides (bytes j) (bytes k)).1 (ap bytes e)

  cases_key : (j k : K) → (j ≡ k) ⊎ (j ≡ k → ⊥)
  cases_key j k = ⊎_elim (λ (t : alike bytes j k ≡ true). inl (alike_true j k t)) (λ (f : alike bytes j k ≡ false). inr (λ e. no (sym (alike_refl j k e) ∙ f))) (cases_Bool (alike bytes j k))

module _ {K M : Type 0} (bytes : K → List ℕ) (told : (j k : K) → bytes j ≡ bytes k → j ≡ k) where
  -- one entry more in front, by whether it is the key's
  module _ (e : Entry K M) (es : List (Entry K M)) (k : K) (m : M) where
    same_by : (b : Bool) → alike bytes e.key k ≡ b → lookup bytes (put bytes es k m) k ≡ Some m → lookup bytes (cond b (entry e.key m ∷ es) (e ∷ put bytes es k m)) k ≡ Some m
    same_by true q later = ap (λ b. cond b (Some m) (lookup bytes es k)) q
    same_by false q later = ap (λ b. cond b (Some e.meter) (lookup bytes (put bytes es k m) k)) q ∙ later

    other_by : (j : K) (b : Bool) → (j ≡ k → ⊥) → alike bytes e.key k ≡ b → lookup bytes (put bytes es k m) j ≡ lookup bytes es j → lookup bytes (cond b (entry e.key m ∷ es) (e ∷ put bytes es k m)) j ≡ lookup bytes (e ∷ es) j
    other_by j true ne q later =
        let off : alike bytes e.key j ≡ false = ⊎_elim (λ (t : alike bytes e.key j ≡ true). absurd (ne (sym (alike_true bytes told e.key j t) ∙ alike_true bytes told e.key k q))) (λ f. f) (cases_Bool (alike bytes e.key j)) in
        ap (λ b. cond b (Some m) (lookup bytes es j)) off ∙ sym (ap (λ b. cond b (Some e.meter) (lookup bytes es j)) off)
    other_by j false ne q later = ap (λ r. cond (alike bytes e.key j) (Some e.meter) r) later

  pub lookup_put_same : (es : List (Entry K M)) (k : K) (m : M) → lookup bytes (put bytes es k m) k ≡ Some m
  lookup_put_same [] k m = ap (λ b. cond b (Some m) None) (alike_refl bytes told k k refl)
  lookup_put_same (e ∷ es) k m = same_by e es k m (alike bytes e.key k) refl (lookup_put_same es k m)

  pub lookup_put_other : (es : List (Entry K M)) (k : K) (m : M) (j : K) → (j ≡ k → ⊥) → lookup bytes (put bytes es k m) j ≡ lookup bytes es j
  lookup_put_other [] k m j ne =
      let off : alike bytes k j ≡ false = ⊎_elim (λ (t : alike bytes k j ≡ true). absurd (ne (sym (alike_true bytes told k j t)))) (λ f. f) (cases_Bool (alike bytes k j)) in
      ap (λ b. cond b (Some m) None) off
  lookup_put_other (e ∷ es) k m j ne = other_by e es k m j (alike bytes e.key k) ne refl (lookup_put_other es k m j ne)

  -- putting a held key adds no entry, and putting another adds one
  abbrev grown : Option M → ℕ → ℕ
  grown (Some n) x = x
  grown None x = x + 1

  pub length_put : (es : List (Entry K M)) (k : K) (m : M) → length (put bytes es k m) ≡ grown (lookup bytes es k) (length es)
  length_put [] k m = omega arith
  length_put (e ∷ es) k m = go (alike bytes e.key k) (lookup bytes es k) (length_put es k m)
    where
      go : (b : Bool) (r : Option M) → length (put bytes es k m) ≡ grown r (length es) → length (cond b (entry e.key m ∷ es) (e ∷ put bytes es k m)) ≡ grown (cond b (Some e.meter) r) (length (e ∷ es))
      go true r l = omega arith
      go false (Some n) l = omega arith
      go false None l = omega arith

-- that a row was found, whichever
abbrev pub unit_of : Result ℕ Unplaced → Result (Unit {0}) Unplaced
unit_of (Ok _) = Ok tt
unit_of (Err e) = Err e

-- over every kind of key and meter; keys with equal bytes are equal
module _ {K M : Type 0} {kind : keys.Ghosts K} (told : (j k : K) → kind.bytes j ≡ kind.bytes k → j ≡ k) where
  -- a table with the same rows is the same map
  pub same_mapped : (t u : FlowTable K M kind) (es : List (Entry K M)) → Mapped t es → Same t u → Mapped u es
  same_mapped t u es a (p, q, r) =
      record {
        count = r ∙ a.count;
        to = λ k m h. a.to k m (rw (p, r) at h);
        from = λ k m h. rw (p, r) (a.from k m h);
      }

  module _ (t : FlowTable K M kind) (es : List (Entry K M)) (a : Mapped t es) (k : K) where
    none_by : (r : Option M) → lookup kind.bytes es k ≡ r → Missing t k → None ≡ r
    none_by None e gone = refl
    none_by (Some m) e gone = let h = a.from k m e in absurd (gone h.0 h.2 (h.1, h.3, h.4))

    pub missing_none : Missing t k → None ≡ lookup kind.bytes es k
    missing_none gone = none_by (lookup kind.bytes es k) refl gone

    pub row_held : (i : ℕ) → RowOf t i k → (m : M) × (lookup kind.bytes es k ≡ Some m)
    row_held i row = (row.1.0.meter, a.to k row.1.0.meter (i, row.1.0, row.0, row.1.1, row.1.2, refl))

    -- what is put in the table is put in the map
    pub put_mapped : (u : FlowTable K M kind) (m : M) → Puts t u k m → u.used ≡ grown kind.bytes told (lookup kind.bytes es k) (length es) → Mapped u (put kind.bytes es k m)
    put_mapped u m p count =
        record {
          count = count ∙ sym (length_put kind.bytes told es k m);
          to = λ j n h. ⊎_elim
              (λ (e : j ≡ k). subst (λ x. lookup kind.bytes (put kind.bytes es k m) x ≡ Some n) (sym e) (lookup_put_same kind.bytes told es k m ∙ ap Some (sym (p.only n (subst (λ x. Held u x n) e h)))))
              (λ ne. lookup_put_other kind.bytes told es k m j ne ∙ a.to j n (p.nomore j n ne h))
              (cases_key kind.bytes told j k);
          from = λ j n h. ⊎_elim
              (λ (e : j ≡ k). let same : ◌≡◌ {A = Option M} (Some m) (Some n) = sym (lookup_put_same kind.bytes told es k m) ∙ subst (λ x. lookup kind.bytes (put kind.bytes es k m) x ≡ Some n) e h in
              let q : m ≡ n = cc in subst (λ x. Held u x n) (sym e) (subst (λ x. Held u k x) q p.held))
              (λ ne. p.kept j n ne (a.from j n (sym (lookup_put_other kind.bytes told es k m j ne) ∙ h)))
              (cases_key kind.bytes told j k);
        }

    -- the row that was found has the meter of the map
    pub read_is : (i : ℕ) (r : Option M) → RowOf t i k → Read t i r → r ≡ lookup kind.bytes es k
    read_is i (Some m) row h = sym (a.to k m (i, row.1.0, row.0, row.1.1, row.1.2, sym (h.1 row.1.0 row.1.1)))
    read_is i None row h = absurd (omega (arith, row.0))

    abbrev Answers : FlowTable K M kind → M → Result (Unit {0}) Unplaced → Type 0
    Answers u m r = let room = fits kind.bytes (length (rows_of t)) es k in (r ≡ placed room) × Mapped u (cond room (put kind.bytes es k m) es)

    answers_by : (u : FlowTable K M kind) (m : M) (b : Bool) → fits kind.bytes (length (rows_of t)) es k ≡ b → Mapped u (cond b (put kind.bytes es k m) es) → Answers u m (placed b)
    answers_by u m b e h = subst (λ v. (placed b ≡ placed v) × Mapped u (cond v (put kind.bytes es k m) es)) (sym e) (refl, h)

    -- the meter of the key's row is replaced
    pub set_mapped : (u : FlowTable K M kind) (i : ℕ) (m : M) (r : Option (Unit {0})) → RowOf t i k → Replaces t u i m r → Answers u m (ok_or r Full)
    set_mapped u i m (Some _) row h =
        let held = row_held i row in
        answers_by u m true
        (ap (λ l. is_some l || ltb (length es) (length (rows_of t))) held.1)
        (put_mapped u m (h.3 k row) (h.1 ∙ a.count ∙ sym (ap (λ l. grown kind.bytes told l (length es)) held.1)))
    set_mapped u i m None row h = absurd (omega (arith, h.0, row.0))

    -- the key gets a row, or there is none
    pub insert_mapped : (u : FlowTable K M kind) (m : M) (r : Result ℕ Unplaced) → Missing t k → Places t u k m r → Answers u m (unit_of r)
    insert_mapped u m (Ok i) gone h =
        let none = missing_none gone in
        answers_by u m true
        (ap (λ l. is_some l || ltb (length es) (length (rows_of t))) (sym none) ∙ lt-ltb (length es) (length (rows_of t)) (omega (arith, h.1, a.count)))
        (put_mapped u m h.3 (h.2 ∙ ap (λ x. x + 1) a.count ∙ ap (λ l. grown kind.bytes told l (length es)) none))
    insert_mapped u m (Err Unplaced.Held) gone h = absurd (gone h.0.0 h.0.1.0 h.0.1.1)
    insert_mapped u m (Err Unplaced.Full) gone h =
        let none = missing_none gone in
        answers_by u m false
        (ap (λ l. is_some l || ltb (length es) (length (rows_of t))) (sym none) ∙ le-ltb (length es) (length (rows_of t)) (omega (arith, h.1, a.count)))
        (same_mapped t u es a h.2)

-- one call more, at i
module _ {K M : Type 0} (bytes : K → List ℕ) (rows : ℕ) (es : List (Entry K M)) (cs : List (Call K M)) (i : ℕ) (c : Call K M) (h : i < length cs) (is : c ≡ get_or cs i c) where
  pub replies_more : (r : Reply M) → r ≡ reply_to bytes rows es c → (before whole : List (Reply M)) → whole ≡ before ++ replies bytes rows es (drop i cs) → whole ≡ (before ++ (r ∷ [])) ++ replies bytes rows (after_call bytes rows es c) (drop (i + 1) cs)
  replies_more r value before whole e =
      let step : replies bytes rows es (drop i cs) ≡ replies bytes rows es (get_or cs i c ∷ drop (i + 1) cs) = at_drop_more (replies bytes rows es) cs i c h in
      let here : replies bytes rows es (drop i cs) ≡ r ∷ replies bytes rows (after_call bytes rows es c) (drop (i + 1) cs) = step ∙ ap (λ x. replies bytes rows es (x ∷ drop (i + 1) cs)) (sym is) ∙ ap (λ x. x ∷ replies bytes rows (after_call bytes rows es c) (drop (i + 1) cs)) (sym value) in
      e ∙ ap (λ l. before ++ l) here ∙ simp append_assoc

  pub after_more : after_all bytes rows es (drop i cs) ≡ after_all bytes rows (after_call bytes rows es c) (drop (i + 1) cs)
  after_more =
      let step : after_all bytes rows es (drop i cs) ≡ after_all bytes rows es (get_or cs i c ∷ drop (i + 1) cs) = at_drop_more (after_all bytes rows es) cs i c h in
      step ∙ ap (λ x. after_all bytes rows es (x ∷ drop (i + 1) cs)) (sym is)
