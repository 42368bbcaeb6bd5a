-- The rows with one more entry. Assumes nothing.
use Rattle.std.proofs.Common.{◌≡◌, ℕ, ◌+◌, ◌<◌, ◌≤◌, min, Bool, true, false, cond, ◌&&◌, eqb, ltb, ◌≢◌, List, [], ◌∷◌, ◌++◌, length, get_or, set, Some, None, Option, Bor, Ok, Err, sym, refl, ap, ◌∙◌, ⊎_elim, arith, length-set, get_or-set_other, get_or-set_same}
use Rattle.std.proofs.Math.Bool.{and-false}
use Rattle.std.proofs.lemmas.List.{length_push}
use Rattle.std.proofs.lemmas.List.Elements.{All-push}
use Rattle.std.proofs.lemmas.Bool.{cases_eq, cases_lt, eq-eqb, ne_eqb, lt-ltb, le-ltb, ltb-true, ltb-false, cases_Bool}
use Rattle.std.proofs.lemmas.Option.{slice_get-get_or, slice_get_past, slice_get_read}
use Rattle.std.specs.Option.{option_copied}
use Rattle.std.specs.Slice.{IsItemAt}
use Rattle.std.specs.List.{slice_get}
use Rattle.meter.specs.declared.measures.Colour.{Colour}
use Rattle.meter.specs.declared.measures.Colour.TheVariants.{Green, Yellow}
use Rattle.policy.proofs.Ancestry.{Falls}
use Rattle.history.specs.declared.answers.Refusal.{Refusal}
use Rattle.history.specs.Answers.{Answer, is_green}
use Rattle.history.specs.Histories.{Config, Offer, Entry, History, entry_of, nodes_of, among}
use Rattle.history.proofs.Pathing.{among_above}
use Rattle.totals.specs.declared.rows.Count.{Count}
use Rattle.totals.specs.declared.rows.Total.{Total}
use Rattle.totals.specs.declared.rows.Totals as table
use Rattle.totals.specs.Totals.{row_count, most_offered, on_row, is_yellow, green_in, yellow_in, named_by, denies, refusal_in, total_of, no_total, AllSmall, Counts, top, bumped, denied, changed_in, bumped_in, denied_in, bumped_all, refused_in, noted, Falling, Noted}
use Rattle.totals.proofs.Summing.{number_same, number_more, count_same, count_more}

-- the numbers of a path, as the tree has them and as the table asks for them
pub falling : (b : ℕ) (ks : List ℕ) → Falls b ks → Falling b ks
falling b [] f = tt
falling b (k ∷ ks) f = (f.0, f.1, falling k ks f.2)

falls : (b : ℕ) (ks : List ℕ) → Falling b ks → Falls b ks
falls b [] f = tt
falls b (k ∷ ks) f = (f.0, f.1, falls k ks f.2)

-- one row of the totals of a history

abbrev made : Count → Count → ℕ → Total
made p q z = record { green = p; yellow = q; refused = z }

total_is : (p p' q q' : Count) (z z' : ℕ) → p ≡ p' → q ≡ q' → z ≡ z' → made p q z ≡ made p' q' z'
total_is p p' q q' z z' a b c = ap (λ v. made v q z) a ∙ ap (λ v. made p' v z) b ∙ ap (made p' q') c

module _ (g : Config) (h : History) (all : AllSmall h) (few : length h < most_offered) (o : Offer) (le : o.size ≤ 65535) (k : ℕ) where
  row_on : (c : Colour) → on_row g k (entry_of o (Ok c)) ≡ true → bumped (total_of g h k) c o.size ≡ total_of g (h ++ (entry_of o (Ok c) ∷ [])) k
  row_on Green on =
      let e = entry_of o (Ok Green) in
      total_is _ _ _ _ _ _
      (count_more (green_in g k) h e few (ap (λ v. v && true) on) all le) (count_same (yellow_in g k) h e (ap (λ v. v && false) on)) (number_same (refusal_in k) h e refl)
  row_on Yellow on =
      let e = entry_of o (Ok Yellow) in
      total_is _ _ _ _ _ _
      (count_same (green_in g k) h e (ap (λ v. v && false) on)) (count_more (yellow_in g k) h e few (ap (λ v. v && true) on) all le) (number_same (refusal_in k) h e refl)

  row_off : (c : Colour) → on_row g k (entry_of o (Ok c)) ≡ false → total_of g h k ≡ total_of g (h ++ (entry_of o (Ok c) ∷ [])) k
  row_off c off =
      let e = entry_of o (Ok c) in
      total_is _ _ _ _ _ _
      (count_same (green_in g k) h e (ap (λ v. v && is_green c) off)) (count_same (yellow_in g k) h e (ap (λ v. v && is_yellow (Ok c)) off)) (number_same (refusal_in k) h e refl)

  module _ (r : Refusal) where
    row_denied : denies k (Err r) ≡ true → denied (total_of g h k) ≡ total_of g (h ++ (entry_of o (Err r) ∷ [])) k
    row_denied d =
        let e = entry_of o (Err r) in
        let none = and-false (on_row g k e) in
        total_is _ _ _ _ _ _ (count_same (green_in g k) h e none) (count_same (yellow_in g k) h e none) (number_more (refusal_in k) h e few d)

    row_passed : denies k (Err r) ≡ false → total_of g h k ≡ total_of g (h ++ (entry_of o (Err r) ∷ [])) k
    row_passed d =
        let e = entry_of o (Err r) in
        let none = and-false (on_row g k e) in
        total_is _ _ _ _ _ _ (count_same (green_in g k) h e none) (count_same (yellow_in g k) h e none) (number_same (refusal_in k) h e d)

-- one row of a table changed

module _ (f : Total → Total) (rs : List Total) (k : ℕ) where
  abbrev either : Bool → List Total
  either b = cond b (set rs k (f (get_or rs k no_total))) rs

  length_changed : length (changed_in f rs k) ≡ length rs
  length_changed = elim (ltb k row_count) as (λ b. length (either b) ≡ length rs) [ true ↦ simp length-set | false ↦ refl ]

  changed_same : length rs ≡ row_count → k < row_count → get_or (changed_in f rs k) k no_total ≡ f (get_or rs k no_total)
  changed_same long lt =
      ap (λ b. get_or (either b) k no_total) (lt-ltb k row_count lt) ∙ get_or-set_same rs k (f (get_or rs k no_total)) no_total (omega arith)

  changed_other : (j : ℕ) → j ≢ k → get_or (changed_in f rs k) j no_total ≡ get_or rs j no_total
  changed_other j ne = elim (ltb k row_count) as (λ b. get_or (either b) j no_total ≡ get_or rs j no_total) [ true ↦ rw get_or-set_other | false ↦ refl ]

-- the rows of a path, and no others, are bumped

module _ (c : Colour) (n : ℕ) where
  abbrev bump : Total → Total
  bump r = bumped r c n

  length_bumped : (rs : List Total) (ks : List ℕ) → length (bumped_all rs ks c n) ≡ length rs
  length_bumped rs [] = refl
  length_bumped rs (k ∷ ks) = length_bumped (bumped_in rs k c n) ks ∙ length_changed bump rs k

  bumped_at : (rs : List Total) (b : ℕ) (ks : List ℕ) (j : ℕ) → Falls b ks → b ≤ row_count → length rs ≡ row_count →
      get_or (bumped_all rs ks c n) j no_total ≡ cond (among j ks) (bump (get_or rs j no_total)) (get_or rs j no_total)
  bumped_at rs b [] j f le long = refl
  bumped_at rs b (k ∷ ks) j f le long =
      let after = bumped_in rs k c n in
      let lt : k < row_count = omega (arith, f.1) in
      let more = bumped_at after k ks j f.2 (omega arith) (length_changed bump rs k ∙ long) in
      ⊎_elim
      (λ (e : j ≡ k).
      let out : among j ks ≡ false = among_above k j ks f.2 (omega arith) in
      more ∙ ap (λ v. cond v (bump (get_or after j no_total)) (get_or after j no_total)) out
      ∙ ap (λ v. get_or after v no_total) e ∙ changed_same bump rs k long lt ∙ ap (λ v. bump (get_or rs v no_total)) (sym e)
      ∙ sym (ap (λ v. cond (cond v true (among j ks)) (bump (get_or rs j no_total)) (get_or rs j no_total)) (eq-eqb j k e)))
      (λ (ne : j ≢ k).
      more ∙ ap (λ v. cond (among j ks) (bump v) v) (changed_other bump rs k j ne)
      ∙ sym (ap (λ v. cond (cond v true (among j ks)) (bump (get_or rs j no_total)) (get_or rs j no_total)) (ne_eqb j k ne)))
      (cases_eq j k)

  among_zero : (b : ℕ) (ks : List ℕ) → Falls b ks → among 0 ks ≡ false
  among_zero b [] f = refl
  among_zero b (k ∷ ks) f = ap (λ v. cond v true (among 0 ks)) (ne_eqb 0 k (λ e. omega (arith, f.0))) ∙ among_zero k ks f.2

  -- the line's row with them
  carried_at_lem : (rs : List Total) (ks : List ℕ) (j : ℕ) → Falls row_count ks → length rs ≡ row_count →
      get_or (bumped_all rs (0 ∷ ks) c n) j no_total ≡ cond (cond (eqb j 0) true (among j ks)) (bump (get_or rs j no_total)) (get_or rs j no_total)
  carried_at_lem rs ks j f long =
      let after = bumped_in rs 0 c n in
      let more = bumped_at after row_count ks j f (omega arith) (length_changed bump rs 0 ∙ long) in
      ⊎_elim
      (λ (e : j ≡ 0).
      more ∙ ap (λ v. cond v (bump (get_or after j no_total)) (get_or after j no_total)) (ap (λ v. among v ks) e ∙ among_zero row_count ks f)
      ∙ ap (λ v. get_or after v no_total) e ∙ changed_same bump rs 0 long (omega arith) ∙ ap (λ v. bump (get_or rs v no_total)) (sym e)
      ∙ sym (ap (λ v. cond (cond v true (among j ks)) (bump (get_or rs j no_total)) (get_or rs j no_total)) (eq-eqb j 0 e)))
      (λ (ne : j ≢ 0).
      more ∙ ap (λ v. cond (among j ks) (bump v) v) (changed_other bump rs 0 j ne)
      ∙ sym (ap (λ v. cond (cond v true (among j ks)) (bump (get_or rs j no_total)) (get_or rs j no_total)) (ne_eqb j 0 ne)))
      (cases_eq j 0)

-- the line's row and the one named, and no others, are denied

module _ (rs : List Total) (long : length rs ≡ row_count) (m : ℕ) (lt : m < row_count) where
  abbrev first : List Total
  first = denied_in rs 0

  long_first : length first ≡ row_count
  long_first = length_changed denied rs 0 ∙ long

  length_refused : length (refused_in rs m) ≡ row_count
  length_refused =
      elim (eqb m 0) as (λ b. length (cond b first (denied_in first m)) ≡ row_count)
      [ true ↦ long_first | false ↦ length_changed denied first m ∙ long_first ]

  abbrev pick : Bool → ℕ → Total
  pick b j = get_or (cond b first (denied_in first m)) j no_total

  line_at : (j : ℕ) → j ≡ 0 → get_or first j no_total ≡ denied (get_or rs j no_total)
  line_at j e = ap (λ v. get_or first v no_total) e ∙ changed_same denied rs 0 long (omega arith) ∙ ap (λ v. denied (get_or rs v no_total)) (sym e)

  refused_line : (j : ℕ) → j ≡ 0 → get_or (refused_in rs m) j no_total ≡ denied (get_or rs j no_total)
  refused_line j e =
      ⊎_elim
      (λ (z : m ≡ 0). ap (λ b. pick b j) (eq-eqb m 0 z) ∙ line_at j e)
      (λ (nz : m ≢ 0). ap (λ b. pick b j) (ne_eqb m 0 nz) ∙ changed_other denied first m j (λ d. nz (sym d ∙ e)) ∙ line_at j e)
      (cases_eq m 0)

  refused_named : (j : ℕ) → j ≢ 0 → j ≡ m → get_or (refused_in rs m) j no_total ≡ denied (get_or rs j no_total)
  refused_named j ne e =
      ap (λ b. pick b j) (ne_eqb m 0 (λ z. ne (e ∙ z)))
      ∙ ap (λ v. get_or (denied_in first m) v no_total) e ∙ changed_same denied first m long_first lt ∙ ap (λ v. denied (get_or first v no_total)) (sym e)
      ∙ ap denied (changed_other denied rs 0 j ne)

  refused_other : (j : ℕ) → j ≢ 0 → j ≢ m → get_or (refused_in rs m) j no_total ≡ get_or rs j no_total
  refused_other j ne apart =
      elim (eqb m 0) as (λ b. pick b j ≡ get_or rs j no_total)
      [ true ↦ changed_other denied rs 0 j ne | false ↦ changed_other denied first m j apart ∙ changed_other denied rs 0 j ne ]

-- the whole table

-- what `get` and `copied` read
pub copied_at : (rs : List Total) (k : ℕ) (r : Option (Bor Total)) → IsItemAt rs k r → option_copied r ≡ slice_get rs k
copied_at rs k None is = sym (slice_get_past rs k (ltb-false k (length rs) (sym is.0)))
copied_at rs k (Some x) is = sym (slice_get_read rs (length rs) k x.now refl (ltb-true k (length rs) (sym is.0)) is.1)

pub row_is : (g : Config) (h : History) (t : table.Totals) (k : ℕ) → Counts g h t → slice_get t.rows k ≡ cond (ltb k row_count) (Some (total_of g h k)) None
row_is g h t k is =
    let long = is.long in
    ⊎_elim
    (λ (lt : k < row_count).
    slice_get-get_or t.rows k no_total (omega arith) ∙ ap Some (is.rows k lt) ∙ sym (ap (λ b. cond b (Some (total_of g h k)) None) (lt-ltb k row_count lt)))
    (λ (le : row_count ≤ k). slice_get_past t.rows k (omega arith) ∙ sym (ap (λ b. cond b (Some (total_of g h k)) None) (le-ltb k row_count le)))
    (cases_lt k row_count)

module _ (g : Config) (h : History) (o : Offer) (t u : table.Totals) (is : Counts g h t) (few : length h < most_offered) (le : o.size ≤ 65535) (one : u.offered ≡ min (t.offered + 1) top) where
  counts : (a : Answer) → length u.rows ≡ row_count → ((k : ℕ) → k < row_count → get_or u.rows k no_total ≡ total_of g (h ++ (entry_of o a ∷ [])) k) → Counts g (h ++ (entry_of o a ∷ [])) u
  counts a long rows =
      let more = length_push h (entry_of o a) in
      let was = is.offered in
      record {
        small = All-push (λ (e : Entry). e.offer.size ≤ 65535) h (entry_of o a) is.small le;
        few = omega arith;
        offered = omega arith;
        long = long;
        rows = rows;
      }

  carried : (c : Colour) (n : ℕ) → o.size ≡ n → Falling row_count (nodes_of g o) → u.rows ≡ bumped_all t.rows (0 ∷ nodes_of g o) c n → Counts g (h ++ (entry_of o (Ok c) ∷ [])) u
  carried c n size falling rows =
      let ks = nodes_of g o in
      let e = entry_of o (Ok c) in
      let rows' : u.rows ≡ bumped_all t.rows (0 ∷ ks) c o.size = rows ∙ ap (bumped_all t.rows (0 ∷ ks) c) (sym size) in
      counts (Ok c) (ap length rows ∙ length_bumped c n t.rows (0 ∷ ks) ∙ is.long)
      (λ k lt.
      let at = ap (λ l. get_or l k no_total) rows' ∙ carried_at_lem c o.size t.rows ks k (falls row_count ks falling) is.long ∙ ap (λ v. cond (on_row g k e) (bumped v c o.size) v) (is.rows k lt) in
      ⊎_elim
      (λ (on : on_row g k e ≡ true). at ∙ ap (λ b. cond b (bumped (total_of g h k) c o.size) (total_of g h k)) on ∙ row_on g h is.small few o le k c on)
      (λ (off : on_row g k e ≡ false). at ∙ ap (λ b. cond b (bumped (total_of g h k) c o.size) (total_of g h k)) off ∙ row_off g h is.small few o le k c off)
      (cases_Bool (on_row g k e)))

  refused : (e : Refusal) → named_by e < row_count → u.rows ≡ refused_in t.rows (named_by e) → Counts g (h ++ (entry_of o (Err e) ∷ [])) u
  refused e lt rows =
      let m = named_by e in
      let denies-by : ℕ → Bool → Bool = λ k b. cond b true (eqb k m) in
      counts (Err e) (ap length rows ∙ length_refused t.rows is.long m lt)
      (λ k inside.
      let at = ap (λ l. get_or l k no_total) rows in
      let row = is.rows k inside in
      ⊎_elim
      (λ (z : k ≡ 0). at ∙ refused_line t.rows is.long m lt k z ∙ ap denied row ∙ row_denied g h is.small few o le k e (ap (denies-by k) (eq-eqb k 0 z)))
      (λ (nz : k ≢ 0).
      let named = ap (denies-by k) (ne_eqb k 0 nz) in
      ⊎_elim
      (λ (d : k ≡ m). at ∙ refused_named t.rows is.long m lt k nz d ∙ ap denied row ∙ row_denied g h is.small few o le k e (named ∙ eq-eqb k m d))
      (λ (apart : k ≢ m). at ∙ refused_other t.rows is.long m lt k nz apart ∙ row ∙ row_passed g h is.small few o le k e (named ∙ ne_eqb k m apart))
      (cases_eq k m))
      (cases_eq k 0))

pub counts_more : (path : List ℕ) (n : ℕ) (a : Answer) (t u : table.Totals) → u.offered ≡ min (t.offered + 1) top → u.rows ≡ noted t.rows path n a → Noted path n a t u
counts_more path n (Ok c) t u one rows g h o is few size le placed =
    carried g h o t u is few le one c n size placed.1 (rows ∙ ap (λ ks. bumped_all t.rows ks c n) placed.0)
counts_more path n (Err e) t u one rows g h o is few size le placed = refused g h o t u is few le one e placed rows
