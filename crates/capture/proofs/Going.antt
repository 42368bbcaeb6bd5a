-- Reading goes on from what was handed out, and settles what the capture has.
use Rattle.std.proofs.Common.{◌≡◌, ℕ, ◌+◌, ◌<◌, Bool, true, false, List, [], ◌∷◌, ◌++◌, length, drop, Some, None, Ok, Err, Option, Result, sym, refl, ap, ◌∙◌, subst, append_assoc, add-zero, arith}
use Rattle.std.proofs.lemmas.List.{append-nil, length-append}
use Rattle.std.proofs.lemmas.Bool.Decides.{nat_tests}
use Rattle.capture.specs.declared.layout.Order.{Order}
use Rattle.capture.specs.declared.layout.Order.TheVariants.{Little, Big}
use Rattle.capture.specs.declared.layout.Refusal.{Refusal}
use Rattle.capture.specs.declared.layout.FileHeader.{FileHeader}
use Rattle.capture.specs.declared.layout.Fault.{Fault}
use Rattle.capture.specs.Numbers.{Bytes}
use Rattle.capture.specs.Records.{head_size, Entry, Good, record_bytes, AtHand, whole, lacking, faulty, at_hand, Fronts, Stays}
use Rattle.capture.specs.Headers.{file_head_size, header_bytes, HeaderFronts}
use Rattle.capture.specs.Reading.{PlacedEntry, placed_at, Coming, header, handed, wanting, ended, stopped, opening, following, next_of, written, Follow, AllGood, Spells, HandedOut, GoesOn, Settles}
use Rattle.capture.proofs.Entries.{fronts, stays}
use Rattle.capture.proofs.FileHeads.{header_fronts, header_stays, header_long}

pub written_push : (o : Order) (rs : List PlacedEntry) (r : PlacedEntry) → written o (rs ++ (r ∷ [])) ≡ written o rs ++ record_bytes o r.entry
written_push o [] r = append-nil (record_bytes o r.entry)
written_push o (x ∷ rs) r = ap (λ l. record_bytes o x.entry ++ l) (written_push o rs r) ∙ sym (append_assoc (record_bytes o x.entry) (written o rs) (record_bytes o r.entry))

pub follow_push : (p q : ℕ) (rs : List PlacedEntry) (e : Entry) → Follow p rs q → Follow p (rs ++ (placed_at q e ∷ [])) (q + (head_size + length e.frame))
follow_push p q [] e f = (f, ap (λ n. n + (head_size + length e.frame)) f)
follow_push p q (x ∷ rs) e f = (f.0, follow_push (p + (head_size + length x.entry.frame)) q rs e f.1)

pub good_push : (rs : List PlacedEntry) (r : PlacedEntry) → AllGood rs → Good r.entry → AllGood (rs ++ (r ∷ []))
good_push [] r g h = (h, tt)
good_push (x ∷ rs) r g h = (g.0, good_push rs r g.1 h)

-- what takes nothing leaves everything
unmoved : (h : Option FileHeader) (rs : List PlacedEntry) (p : ℕ) (u input : List ℕ) → HandedOut h rs p u input → HandedOut h (rs ++ []) (p + 0) u input
unmoved h rs p u input k =
    subst (λ n. HandedOut h (rs ++ []) n u input) (sym (add-zero p)) (subst (λ l. HandedOut h l p u input) (sym (append-nil rs)) k)

module _ (p : ℕ) (u : List ℕ) (small : Bytes u) where
  opening_goes : (r : Result FileHeader Refusal) → HeaderFronts u r → GoesOn None p u (opening r)
  opening_goes (Err f) t input rs k = unmoved None rs p u input k
  opening_goes (Ok h) t input rs k =
      let none : rs ++ [] ≡ [] = append-nil rs ∙ k.0 in
      let at : p + file_head_size ≡ file_head_size = omega (arith, k.1) in
      let first : Spells h [] file_head_size (drop file_head_size u) input =
      record { fit = t.0; good = tt; follow = refl; spelled = sym k.2 ∙ t.1 } in
      subst (λ n. Spells h (rs ++ []) n (drop file_head_size u) input) (sym at) (subst (λ l. Spells h l file_head_size (drop file_head_size u) input) (sym none) first)

  following_goes : (h : FileHeader) (closed : Bool) (x : AtHand) → Fronts h.order u x → GoesOn (Some h) p u (following closed p u x)
  following_goes h closed (faulty f) t input rs k = unmoved (Some h) rs p u input k
  following_goes h false (lacking n) t input rs k = unmoved (Some h) rs p u input k
  following_goes h true (lacking n) t input rs k = grind (arith, nat_tests, unmoved)
  following_goes h closed (whole e) t input rs k =
      let o = h.order in
      let rest = drop (head_size + length e.frame) u in
      record {
        fit = k.fit;
        good = good_push rs (placed_at p e) k.good t.0;
        follow = follow_push file_head_size p rs e k.follow;
        spelled =
            k.spelled
            ∙ ap (λ l. header_bytes h ++ (written o rs ++ l)) t.1
            ∙ ap (λ l. header_bytes h ++ l) (sym (append_assoc (written o rs) (record_bytes o e) rest) ∙ ap (λ l. l ++ rest) (sym (written_push o rs (placed_at p e))));
      }

  pub goes_on : (h : Option FileHeader) (closed : Bool) → GoesOn h p u (next_of h closed p u)
  goes_on (Some h) closed input rs k = following_goes h closed (at_hand h.order u) (fronts h.order u small) input rs k
  goes_on None true input rs k = grind (arith, nat_tests, unmoved, opening_goes, header_fronts)
  goes_on None false input rs k = grind (arith, nat_tests, unmoved, opening_goes, header_fronts)

-- more input changes nothing that was handed out
pub more_out : (h : Option FileHeader) (rs : List PlacedEntry) (p : ℕ) (u input more : List ℕ) → HandedOut h rs p u input → HandedOut h rs p (u ++ more) (input ++ more)
more_out None rs p u input more k = (k.0, k.1, ap (λ l. l ++ more) k.2)
more_out (Some h) rs p u input more k =
    record {
      fit = k.fit;
      good = k.good;
      follow = k.follow;
      spelled = ap (λ l. l ++ more) k.spelled ∙ simp append_assoc;
    }

-- a fault before the end stays, whatever follows
following_stops : (h : FileHeader) (p : ℕ) (u more : List ℕ) (f : Fault) (x : AtHand) → Stays x (at_hand h.order (u ++ more)) →
    following false p u x ≡ stopped f → following true p (u ++ more) (at_hand h.order (u ++ more)) ≡ stopped f
following_stops h p u more f (whole e) s q = cc
following_stops h p u more f (lacking n) s q = cc
following_stops h p u more f (faulty g) s q = ap (λ x. following true p (u ++ more) x) s ∙ q

pub stop_stays : (h : Option FileHeader) (p : ℕ) (u more : List ℕ) (f : Fault) → next_of h false p u ≡ stopped f → next_of h true p (u ++ more) ≡ stopped f
stop_stays (Some h) p u more f q = following_stops h p u more f (at_hand h.order u) (stays h.order u more) q
stop_stays None p u more f q = let longer = length-append u more in grind (arith, nat_tests, header_stays, longer)

-- more is wanted only of too few bytes, and never of a closed input
module _ (p : ℕ) (u : List ℕ) where
  following_wants : (h : FileHeader) (closed : Bool) (x : AtHand) → Fronts h.order u x → (n : ℕ) → following closed p u x ≡ wanting n →
      (length u < n) × (closed ≡ false)
  following_wants h closed (whole e) t n q = cc
  following_wants h closed (faulty f) t n q = cc
  following_wants h false (lacking m) t n q = let same : m ≡ n = cc in (omega (arith, same, t), refl)
  following_wants h true (lacking m) t n q = grind (arith, nat_tests)

  opening_never : (r : Result FileHeader Refusal) (n : ℕ) → opening r ≡ wanting n → ⊥
  opening_never (Ok h) n q = cc
  opening_never (Err f) n q = cc

  pub wants : Bytes u → (h : Option FileHeader) (closed : Bool) (n : ℕ) → next_of h closed p u ≡ wanting n → (length u < n) × (closed ≡ false)
  wants small (Some h) closed n q = following_wants h closed (at_hand h.order u) (fronts h.order u small) n q
  wants small None true n q = grind (arith, nat_tests, opening_never)
  wants small None false n q = grind (arith, nat_tests, opening_never)

  -- an input that is not closed has not ended
  following_open : (h : FileHeader) (x : AtHand) → following false p u x ≡ ended → ⊥
  following_open h (whole e) q = cc
  following_open h (lacking n) q = cc
  following_open h (faulty f) q = cc

  opening_open : (r : Result FileHeader Refusal) → opening r ≡ ended → ⊥
  opening_open (Ok h) q = cc
  opening_open (Err f) q = cc

  pub still_open : (h : Option FileHeader) → next_of h false p u ≡ ended → ⊥
  still_open (Some h) q = following_open h (at_hand h.order u) q
  still_open None q = grind (arith, nat_tests, opening_open)

-- the same of any answer that is what comes next
pub next_goes : (h : Option FileHeader) (closed : Bool) (p : ℕ) (u : List ℕ) → Bytes u → (x : Coming) → x ≡ next_of h closed p u → GoesOn h p u x
next_goes h closed p u small x is = subst (λ y. GoesOn h p u y) (sym is) (goes_on p u small h closed)

pub next_settles : (h : Option FileHeader) (closed : Bool) (p : ℕ) (u : List ℕ) → Bytes u → (x : Coming) → x ≡ next_of h closed p u → Settles h closed p u x
next_settles h closed p u small (header k) is = tt
next_settles h closed p u small (handed r) is = tt
next_settles h closed p u small (wanting n) is = wants p u small h closed n (sym is)
next_settles h true p u small ended is = λ input rs k. (refl, record { place = p; rest = u; handed_out = k; ends = sym is })
next_settles h false p u small ended is = absurd (still_open p u h (sym is))
next_settles h true p u small (stopped f) is = λ input rs k. record { place = p; rest = u; handed_out = k; ends = sym is }
next_settles h false p u small (stopped f) is =
    λ input more rs k. record { place = p; rest = u ++ more; handed_out = more_out h rs p u input more k; ends = stop_stays h p u more f (sym is) }

-- the place and the bytes at hand count the input
pub record_long : (o : Order) (e : Entry) → length (record_bytes o e) ≡ head_size + length e.frame
record_long Little e = omega arith
record_long Big e = omega arith

follow_long : (o : Order) (rs : List PlacedEntry) (p q : ℕ) → Follow p rs q → q ≡ p + length (written o rs)
follow_long o [] p q f = omega (arith, f)
follow_long o (r ∷ rs) p q f =
    omega (arith, follow_long o rs (p + (head_size + length r.entry.frame)) q f.1, length-append (record_bytes o r.entry) (written o rs), record_long o r.entry)

pub handed_long : (h : Option FileHeader) (rs : List PlacedEntry) (p : ℕ) (u input : List ℕ) → HandedOut h rs p u input → p + length u ≡ length input
handed_long None rs p u input k = omega (arith, k.1, ap length k.2)
handed_long (Some h) rs p u input k =
    omega (arith, follow_long h.order rs file_head_size p k.follow, ap length k.spelled, header_long h (written h.order rs ++ u) k.fit, length-append (written h.order rs) u)
