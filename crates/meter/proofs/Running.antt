-- From an unused meter on, the buckets of a run follow its charges.
-- Assumes nothing.
use Rattle.std.proofs.Common.{◌≡◌, ℕ, ◌≤◌, Bool, true, false, cond, List, [], ◌∷◌, ◌++◌, length, drop, Some, None, Ok, Err, Option, sym, refl, ap, ◌∙◌, subst, append_assoc, append-nil}
use Rattle.std.proofs.lemmas.List.{at_drop_all}
use Rattle.std.proofs.lemmas.Bool.{and_parts, leb-true}
use Rattle.meter.specs.declared.measures.Arrival.{Arrival}
use Rattle.meter.specs.declared.measures.Bucket.{Bucket}
use Rattle.meter.specs.declared.measures.Colour.{Colour}
use Rattle.meter.specs.declared.measures.Limit.{Limit}
use Rattle.meter.specs.declared.measures.PacketColour.{PacketColour}
use Rattle.meter.specs.declared.measures.PacketColour.TheVariants.{Green, Yellow, Red}
use Rattle.meter.specs.declared.measures.State.{State}
use Rattle.meter.specs.declared.measures.Terms.{Terms}
use Rattle.meter.specs.Rules.{cost, green_level, green_room, green_filled, limit_of, fitting, terms_of, unused, empty_green, Sound, SoundGreen}
use Rattle.meter.specs.Alone.{best_of, best_for, colour_of, coloured, charged_as, left_by, answers, left_all}
use Rattle.meter.specs.Windows.{Charge, charge_of}
use Rattle.meter.specs.Laws.{Follows, Filled}
use Rattle.meter.specs.Runs.{Answer, carried_at, every, is_green, charge_for, charges_of, FilledGreen, Metered, Ran}
use Rattle.meter.proofs.Keeps.{unless_ok, counted_sound, counted_terms}
use Rattle.meter.proofs.Following.{follows_none, follows_charge, follows_skip, follows_fill}

-- a colour that came out fitted
pub best_fits : (f : Colour → Bool) (a : PacketColour) (k : Colour) → colour_of (best_of f a) ≡ colour_of (Some k) → f k ≡ true
best_fits f Green k h = go (f Colour.Green) (f Colour.Yellow) k refl refl h
  where
    go : (g y : Bool) (k : Colour) → f Colour.Green ≡ g → f Colour.Yellow ≡ y → colour_of (cond g (Some Colour.Green) (cond y (Some Colour.Yellow) None)) ≡ colour_of (Some k) → f k ≡ true
    go true y Colour.Green p q e = p
    go true y Colour.Yellow p q e = cc
    go false true Colour.Green p q e = cc
    go false true Colour.Yellow p q e = q
    go false false Colour.Green p q e = cc
    go false false Colour.Yellow p q e = cc
best_fits f Yellow k h = go (f Colour.Yellow) k refl h
  where
    go : (y : Bool) (k : Colour) → f Colour.Yellow ≡ y → colour_of (cond y (Some Colour.Yellow) None) ≡ colour_of (Some k) → f k ≡ true
    go true Colour.Green q e = cc
    go true Colour.Yellow q e = q
    go false Colour.Green q e = cc
    go false Colour.Yellow q e = cc
best_fits f Red Colour.Green h = cc
best_fits f Red Colour.Yellow h = cc

abbrev FollowsGreen : Option Bucket → ℕ → List Charge → Type 0
FollowsGreen None clock cs = Unit {0}
FollowsGreen (Some g) clock cs = Follows g clock cs

record Tracks (m : State) (as-all as-green : List Charge) : Type 0 where
  sound : Sound m
  all : Follows m.all m.all.last.0 as-all
  green : FollowsGreen m.green m.all.last.0 as-green

module _ (m : State) (a : Arrival) where
  -- a packet that came out green or yellow was not early, and fitted
  taken : (k : Colour) → coloured m a ≡ Ok (colour_of (Some k)) → (m.all.last.0 ≤ a.moment.0) × (fitting m a.size.0 a.moment.0 k ≡ true)
  taken k e =
      let p = unless_ok m a.size.0 a.moment.0 _ _ e in
      let q : colour_of (best_for m a) ≡ colour_of (Some k) = let w = p.1 in cc in
      (p.0, best_fits (fitting m a.size.0 a.moment.0) a.colour k q)

green_counts : (g : Option Bucket) (clock : ℕ) (cs : List Charge) (t c : ℕ) → FollowsGreen g clock cs → clock ≤ t → green_room (limit_of g) (green_level g t) c ≡ true → FollowsGreen (green_filled g t c Colour.Green) t (cs ++ (charge_of t c ∷ []))
green_counts None clock cs t c f le room = tt
green_counts (Some g) clock cs t c f le room = follows_charge g clock cs t c f le (leb-true _ _ room)

green_skips : (g : Option Bucket) (clock : ℕ) (cs : List Charge) (t c : ℕ) → SoundGreen g → FollowsGreen g clock cs → clock ≤ t → FollowsGreen (green_filled g t c Colour.Yellow) t (cs ++ (charge_of t 0 ∷ []))
green_skips None clock cs t c s f le = tt
green_skips (Some g) clock cs t c s f le = follows_skip g clock cs t f le s.within

module _ (m : State) (a : Arrival) (A G : List Charge) (k : Tracks m A G) where
  abbrev w : Terms
  w = terms_of m

  -- one packet more: charged where it is carried
  stepped : (r : Answer) → coloured m a ≡ r → Tracks (charged_as m a r) (A ++ charge_for every w a (carried_at r)) (G ++ charge_for is_green w a (carried_at r))
  stepped (Ok Green) e =
      let p = taken m a Colour.Green e in
      let parts = and_parts _ _ p.1 in
      record {
        sound = counted_sound m a.size.0 a.moment.0 k.sound Colour.Green p.1;
        all = follows_charge m.all m.all.last.0 A a.moment.0 (cost w a.size.0) k.all p.0 (leb-true _ _ parts.0);
        green = green_counts m.green m.all.last.0 G a.moment.0 (cost w a.size.0) k.green p.0 parts.1;
      }
  stepped (Ok Yellow) e =
      let p = taken m a Colour.Yellow e in
      let parts = and_parts _ _ p.1 in
      record {
        sound = counted_sound m a.size.0 a.moment.0 k.sound Colour.Yellow p.1;
        all = follows_charge m.all m.all.last.0 A a.moment.0 (cost w a.size.0) k.all p.0 (leb-true _ _ parts.0);
        green = green_skips m.green m.all.last.0 G a.moment.0 (cost w a.size.0) k.sound.green k.green p.0;
      }
  stepped (Ok Red) e = rw (append-nil A, append-nil G) k
  stepped (Err x) e = rw (append-nil A, append-nil G) k

  kept : (r : Answer) → terms_of (charged_as m a r) ≡ w
  kept (Ok Green) = counted_terms m a.moment.0 (cost w a.size.0) Colour.Green
  kept (Ok Yellow) = counted_terms m a.moment.0 (cost w a.size.0) Colour.Yellow
  kept (Ok Red) = refl
  kept (Err x) = refl

run : (w : Terms) (arrivals : List Arrival) (m : State) (A G : List Charge) → terms_of m ≡ w → Tracks m A G →
    Tracks (left_all m arrivals) (A ++ charges_of every w arrivals (answers m arrivals)) (G ++ charges_of is_green w arrivals (answers m arrivals))
    × (terms_of (left_all m arrivals) ≡ w)
run w [] m A G e k = (rw (append-nil A, append-nil G) k, e)
run w (a ∷ rest) m A G e k =
    let r = coloured m a in
    let next = subst (λ u. Tracks (left_by m a) (A ++ charge_for every u a (carried_at r)) (G ++ charge_for is_green u a (carried_at r))) e (stepped m a A G k r refl) in
    let later = run w rest (left_by m a) _ _ (kept m a A G k r ∙ e) next in
    (simp append_assoc at later.0, later.1)

green_none : (l : Option Limit) → FollowsGreen (empty_green l) 0 []
green_none None = tt
green_none (Some l) = follows_none l

filled_green : (g : Option Bucket) (clock : ℕ) (cs : List Charge) → FollowsGreen g clock cs → FilledGreen g clock cs
filled_green None clock cs f = tt
filled_green (Some g) clock cs f = follows_fill g clock cs f

run_metered : (m : State) (arrivals : List Arrival) → Sound m → m ≡ unused (terms_of m) → Metered (left_all m arrivals) arrivals (answers m arrivals)
run_metered m arrivals s e =
    let w = terms_of m in
    let start : Tracks m [] [] = subst (λ x. Tracks x [] []) (sym e) (record { sound = subst Sound e s; all = follows_none w.all; green = green_none w.green }) in
    let r = run w arrivals m [] [] refl start in
    let last = left_all m arrivals in
    record {
      all = subst (λ u. Filled last.all last.all.last.0 (charges_of every u arrivals (answers m arrivals))) (sym r.1) (follows_fill last.all last.all.last.0 _ r.0.all);
      green = subst (λ u. FilledGreen last.green last.all.last.0 (charges_of is_green u arrivals (answers m arrivals))) (sym r.1) (filled_green last.green last.all.last.0 _ r.0.green);
    }

-- where nothing is left of the arrivals
pub ran : {S : Type 0} (f : S → State) (before after : S) (arrivals : List Arrival) (rs : List Answer) (i : ℕ) → Sound (f before) → length arrivals ≤ i →
    answers (f before) arrivals ≡ rs ++ answers (f after) (drop i arrivals) → left_all (f before) arrivals ≡ left_all (f after) (drop i arrivals) →
    Ran f before after arrivals rs
ran f before after arrivals rs i s end p q =
    let whole : answers (f before) arrivals ≡ rs = p ∙ ap (λ l. rs ++ l) (at_drop_all (answers (f after)) arrivals i end) ∙ append-nil rs in
    let left : left_all (f before) arrivals ≡ f after = q ∙ at_drop_all (left_all (f after)) arrivals i end in
    record {
      answers = sym whole;
      left = sym left;
      metered = λ e. subst (λ l. Metered (f after) arrivals l) whole (subst (λ m. Metered m arrivals (answers (f before) arrivals)) left (run_metered (f before) arrivals s e));
    }
