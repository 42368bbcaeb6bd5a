-- A meter that tracks the fills of a history goes on to, with one more entry. Assumes nothing.
use Rattle.std.proofs.Common.{◌≡◌, ℕ, ◌+◌, ◌-◌, ◌*◌, ◌≤◌, Bool, true, false, cond, not, ◌&&◌, ltb, leb, List, [], ◌∷◌, ◌++◌, Some, None, Ok, Err, Option, Result, sym, refl, ap, ◌∙◌, subst, le_trans, le_refl, arith}
use Rattle.std.proofs.lemmas.Bool.{and_from, lt-ltb, le-leb}
use Rattle.meter.specs.declared.measures.Bucket.{Bucket}
use Rattle.meter.specs.declared.measures.Colour.{Colour}
use Rattle.meter.specs.declared.measures.Colour.TheVariants.{Green, Yellow}
use Rattle.meter.specs.declared.measures.Limit.{Limit}
use Rattle.meter.specs.declared.measures.Refusal as meter
use Rattle.meter.specs.declared.measures.Refusal.TheVariants as refused
use Rattle.meter.specs.declared.measures.State.{State}
use Rattle.meter.specs.declared.measures.Terms.{Terms}
use Rattle.meter.specs.Rules.{cost, fits_by, fitting, overfull, unless, asked, charged, fits_in, level, green_level, limit_of, terms_of, green_filled, counted, empty_green, unused, largest_size, largest_moment}
use Rattle.meter.specs.Windows.{Charge, charge_of, By, window_cost, fill}
use Rattle.meter.proofs.Fill.{fill_later, fill_charge}
use Rattle.meter.proofs.Keeps.{counted_terms}
use Rattle.paths.specs.Layers.{over_in, after_charge}
use Rattle.packet.specs.declared.kinds.Key.{Key}
use Rattle.history.specs.declared.answers.Refusal.{Refusal}
use Rattle.history.specs.Answers.{Answer, is_carried, is_green, carried_green}
use Rattle.history.specs.Histories.{Offer, Entry, History, entry_of, clock_of, charges_of, counts, counts_green, all_fill, fill_if, green_fill, meter_fits, meter_over, on_flow, is_key, key_of, carried_by, carried_of, carried_key}
use Rattle.history.specs.Tracks.{Tracks, Fair}
use Rattle.history.proofs.Longer.{by_later, by_push, clock_snoc, clock_rises, charges_snoc, charges_none, Timely}

-- the fill after one more charge, at t
fill_then : (rate : ℕ) (l : List Charge) (t now n : ℕ) → By t l → t ≤ now → fill rate (l ++ (charge_of t n ∷ [])) now ≡ (fill rate l t + n) - rate * (now - t)
fill_then rate l t now n by le =
    let c : Charge = charge_of t n in
    fill_later rate (l ++ (c ∷ [])) t now le (by_push t l c (le_refl t) by) ∙ ap (λ v. v - rate * (now - t)) (fill_charge rate l c)

module _ (h : History) (o : Offer) (c : Colour) (late : clock_of h ≤ o.moment) where
  abbrev longer : History
  longer = h ++ (entry_of o (Ok c) ∷ [])

  now_late : (t : ℕ) → clock_of longer ≤ t → o.moment ≤ t
  now_late t le = rw (clock_snoc 0 h (entry_of o (Ok c))) at le

  clock_now : clock_of longer ≡ o.moment
  clock_now = clock_snoc 0 h (entry_of o (Ok c))

  module _ (rate : ℕ) (w : Terms) (p : Entry → Bool) (by : By (clock_of h) (charges_of p w h)) (t : ℕ) (le : o.moment ≤ t) where
    by_now : By o.moment (charges_of p w h)
    by_now = by_later (clock_of h) o.moment (charges_of p w h) late by

    -- the bucket counts the record
    bucket_in : p (entry_of o (Ok c)) ≡ true → (before : ℕ) → before ≡ fill rate (charges_of p w h) o.moment →
        (before + cost w o.size) - rate * (t - o.moment) ≡ fill rate (charges_of p w longer) t
    bucket_in in' at is =
        ap (λ v. (v + cost w o.size) - rate * (t - o.moment)) is
        ∙ sym (fill_then rate (charges_of p w h) o.moment t (cost w o.size) by_now le)
        ∙ sym (ap (λ l. fill rate l t) (charges_snoc p w h (entry_of o (Ok c)) ∙ ap (λ b. charges_of p w h ++ (charge_of o.moment (cond b (cost w o.size) 0) ∷ [])) in'))

    -- the bucket leaves the record out
    bucket_out : p (entry_of o (Ok c)) ≡ false → fill rate (charges_of p w h) t ≡ fill rate (charges_of p w longer) t
    bucket_out out' =
        let then = fill_then rate (charges_of p w h) o.moment t 0 by_now le in
        let later = fill_later rate (charges_of p w h) o.moment t le by_now in
        let same : fill rate (charges_of p w h ++ (charge_of o.moment 0 ∷ [])) t ≡ fill rate (charges_of p w h) t = omega arith in
        sym same ∙ sym (ap (λ l. fill rate l t) (charges_snoc p w h (entry_of o (Ok c)) ∙ ap (λ b. charges_of p w h ++ (charge_of o.moment (cond b (cost w o.size) 0) ∷ [])) out'))

  module _ (w : Terms) (on : Offer → Bool) (by : (p : Entry → Bool) → By (clock_of h) (charges_of p w h)) where
    green_in : (b : Option Bucket) → on o ≡ true → c ≡ Green → green_level b o.moment ≡ fill_if (limit_of b) w on h o.moment →
        (t : ℕ) → o.moment ≤ t → green_level (green_filled b o.moment (cost w o.size) Green) t ≡ fill_if (limit_of b) w on longer t
    green_in None q r is t le = refl
    green_in (Some b) q r is t le = bucket_in b.limit.rate w (counts_green on) (by _) t le (ap (λ v. v && is_green c) q ∙ ap is_green r) (level b o.moment) is

    green_out : (b : Option Bucket) → (on o && is_green c) ≡ false → (t : ℕ) → o.moment ≤ t → green_level b t ≡ fill_if (limit_of b) w on h t → green_level b t ≡ fill_if (limit_of b) w on longer t
    green_out None q t le is = refl
    green_out (Some b) q t le is = is ∙ bucket_out b.limit.rate w (counts_green on) (by _) t le q

green_yellow : (b : Option Bucket) (t n : ℕ) → green_filled b t n Yellow ≡ b
green_yellow None t n = refl
green_yellow (Some b) t n = refl

module _ (w : Terms) (on : Offer → Bool) (h : History) (m : State) (k : Tracks w on h m) where
  own : Tracks (terms_of m) on h m
  own = subst (λ v. Tracks v on h m) (sym k.terms) k

  -- a carried record that the meter lies on the path of
  pub tracks_on : (o : Offer) (c : Colour) → clock_of h ≤ o.moment → ((v : Terms) (p : Entry → Bool) → By (clock_of h) (charges_of p v h)) → on o ≡ true →
      Tracks w on (h ++ (entry_of o (Ok c) ∷ [])) (counted m o.moment (cost (terms_of m) o.size) c)
  tracks_on o c late by q = subst (λ v. Tracks v on (h ++ (entry_of o (Ok c) ∷ [])) (counted m o.moment (cost (terms_of m) o.size) c)) k.terms (record {
    terms = counted_terms m o.moment (cost (terms_of m) o.size) c;
    past = rw (clock_now h o c late) (le_refl o.moment);
    all = λ t le. bucket_in h o c late m.all.limit.rate (terms_of m) (counts on) (by (terms_of m) _) t (now_late h o c late t le) q (level m.all o.moment) (own.all o.moment late);
    green = λ t le. green c refl t (now_late h o c late t le);
  })
    where
      green : (d : Colour) → c ≡ d → (t : ℕ) → o.moment ≤ t → green_level (green_filled m.green o.moment (cost (terms_of m) o.size) d) t ≡ fill_if (limit_of m.green) (terms_of m) on (h ++ (entry_of o (Ok c) ∷ [])) t
      green Green e t le = green_in h o c late (terms_of m) on (by (terms_of m)) m.green q e (own.green o.moment late) t le
      green Yellow e t le =
          ap (λ b. green_level b t) (green_yellow m.green o.moment (cost (terms_of m) o.size))
          ∙ green_out h o c late (terms_of m) on (by (terms_of m)) m.green (ap (λ d. on o && is_green d) e ∙ ap (λ v. v && false) q) t le (own.green t (le_trans late le))

  -- a carried record that it does not lie on the path of
  pub tracks_off : (o : Offer) (c : Colour) → clock_of h ≤ o.moment → ((v : Terms) (p : Entry → Bool) → By (clock_of h) (charges_of p v h)) → on o ≡ false →
      Tracks w on (h ++ (entry_of o (Ok c) ∷ [])) m
  tracks_off o c late by q = subst (λ v. Tracks v on (h ++ (entry_of o (Ok c) ∷ [])) m) k.terms (record {
    terms = refl;
    past = rw (clock_now h o c late) (le_trans k.past late);
    all = λ t le. own.all t (le_trans late (now_late h o c late t le)) ∙ bucket_out h o c late m.all.limit.rate (terms_of m) (counts on) (by (terms_of m) _) t (now_late h o c late t le) q;
    green = λ t le. green_out h o c late (terms_of m) on (by (terms_of m)) m.green (ap (λ v. v && is_green c) q) t (now_late h o c late t le) (own.green t (le_trans late (now_late h o c late t le)));
  })

  green_none : (b : Option Bucket) (o : Offer) (e : Refusal) → (v : Terms) (t : ℕ) → green_level b t ≡ fill_if (limit_of b) v on h t → green_level b t ≡ fill_if (limit_of b) v on (h ++ (entry_of o (Err e) ∷ [])) t
  green_none None o e v t is = refl
  green_none (Some b) o e v t is = is ∙ sym (ap (λ l. fill b.limit.rate l t) (charges_none (counts_green on) v h o e))

  -- a refused record
  pub tracks_none : (o : Offer) (e : Refusal) → Timely h o (Err e) → Tracks w on (h ++ (entry_of o (Err e) ∷ [])) m
  tracks_none o e timely = subst (λ v. Tracks v on (h ++ (entry_of o (Err e) ∷ [])) m) k.terms (record {
    terms = refl;
    past = le_trans k.past (clock_rises h o (Err e) timely);
    all = λ t le. own.all t (le_trans (clock_rises h o (Err e) timely) le) ∙ sym (ap (λ l. fill m.all.limit.rate l t) (charges_none (counts on) (terms_of m) h o e));
    green = λ t le. green_none m.green o e (terms_of m) t (own.green t (le_trans (clock_rises h o (Err e) timely) le));
  })

  -- it is asked about a fair offer without a refusal
  passed : {X : Type 0} (o : Offer) (x : Result X meter.Refusal) → Fair o → clock_of h ≤ o.moment → unless m o.size o.moment x ≡ x
  passed o x fair late =
      ap (λ b. cond b (cond (leb o.moment largest_moment) (cond (leb m.all.last.0 o.moment) x (Err refused.Backward)) (Err refused.BadMoment)) (Err refused.BadSize))
      (and_from (ltb 0 o.size) (leb o.size largest_size) (lt-ltb 0 o.size fair.some) (le-leb o.size largest_size fair.fits))
      ∙ ap (λ b. cond b (cond (leb m.all.last.0 o.moment) x (Err refused.Backward)) (Err refused.BadMoment)) (le-leb o.moment largest_moment fair.soon)
      ∙ ap (λ b. cond b x (Err refused.Backward)) (le-leb m.all.last.0 o.moment (le_trans k.past late))

  fits_tracks : (o : Offer) (c : Colour) → clock_of h ≤ o.moment → fitting m o.size o.moment c ≡ meter_fits w on h o c
  fits_tracks o c late = subst (λ v. fitting m o.size o.moment c ≡ meter_fits v on h o c) k.terms
      (ap (λ v. fits_by (terms_of m) v (green_level m.green o.moment) (cost (terms_of m) o.size) c) (own.all o.moment late)
      ∙ ap (λ v. fits_by (terms_of m) (all_fill (terms_of m) on h o.moment) v (cost (terms_of m) o.size) c) (own.green o.moment late))

  -- it fits by its state as it does by the history
  pub asked_tracks : (o : Offer) (c : Colour) → Fair o → clock_of h ≤ o.moment → fits_in (asked m o.size o.moment c) ≡ meter_fits w on h o c
  asked_tracks o c fair late = ap fits_in (passed o (Ok (record { fits = fitting m o.size o.moment c; over = overfull m o.size o.moment })) fair late) ∙ fits_tracks o c late

  pub over_tracks : (o : Offer) → Fair o → clock_of h ≤ o.moment → over_in (asked m o.size o.moment Yellow) ≡ meter_over w on h o
  over_tracks o fair late =
      ap over_in (passed o (Ok (record { fits = fitting m o.size o.moment Yellow; over = overfull m o.size o.moment })) fair late)
      ∙ subst (λ v. overfull m o.size o.moment ≡ meter_over v on h o) k.terms (ap (λ v. not (leb (v + cost (terms_of m) o.size) m.all.limit.depth.0)) (own.all o.moment late))

  -- a charge that fits is made
  pub charged_tracks : (o : Offer) (c : Colour) → Fair o → clock_of h ≤ o.moment → meter_fits w on h o c ≡ true → after_charge m (charged m o.size o.moment c) ≡ counted m o.moment (cost (terms_of m) o.size) c
  charged_tracks o c fair late fit =
      let x : Result State meter.Refusal = cond (fitting m o.size o.moment c) (Ok (counted m o.moment (cost (terms_of m) o.size) c)) (Err refused.Unfit) in
      ap (after_charge m) (passed o x fair late ∙ ap (λ b. cond b (Ok (counted m o.moment (cost (terms_of m) o.size) c)) (Err refused.Unfit)) (fits_tracks o c late ∙ fit))

-- a meter that nothing was charged to

fill_zero : (rate : ℕ) (l : List Charge) (t : ℕ) → window_cost l ≡ 0 → fill rate l t ≡ 0
fill_zero rate [] t e = refl
fill_zero rate (c ∷ l) t e = let z : window_cost l ≡ 0 = omega arith in let more = fill_zero rate l t z in omega arith

carried_key_lem : (x : Entry) (k : Key) → is_carried x.answer ≡ true → is_key k (carried_of x) ≡ on_flow k x.offer
carried_key_lem x k e = go x.answer e
  where
    go : (a : Answer) → is_carried a ≡ true → is_key k (carried_by a (key_of x.offer)) ≡ on_flow k x.offer
    go (Ok c) e = refl
    go (Err r) e = cc

cost_zero : (w : Terms) (k : Key) (p : Entry → Bool) → ((e : Entry) → on_flow k e.offer ≡ false → p e ≡ false) → (h : History) → carried_key h k ≡ false → window_cost (charges_of p w h) ≡ 0
cost_zero w k p f [] n = refl
cost_zero w k p f (x ∷ h) n = go (is_carried x.answer) refl (is_key k (carried_of x)) refl (cost_zero w k p f h) n
  where
    go : (b : Bool) → is_carried x.answer ≡ b → (a : Bool) → is_key k (carried_of x) ≡ a → (carried_key h k ≡ false → window_cost (charges_of p w h) ≡ 0) → cond a true (carried_key h k) ≡ false → window_cost (cond b (charge_of x.offer.moment (cond (p x) (cost w x.offer.size) 0) ∷ charges_of p w h) (charges_of p w h)) ≡ 0
    go b eb true ea more z = cc
    go true eb false ea more z =
        let q : cond (p x) (cost w x.offer.size) 0 ≡ 0 = ap (λ v. cond v (cost w x.offer.size) 0) (f x (sym (carried_key_lem x k eb) ∙ ea)) in
        omega (arith, q, more z)
    go false eb false ea more z = more z

green_unused : (on : Offer → Bool) (h : History) (w : Terms) (t : ℕ) → ((rate : ℕ) → fill rate (charges_of (counts_green on) w h) t ≡ 0) → green_level (unused w).green t ≡ green_fill w on h t
green_unused on h w t zero' = go w.green
  where
    go : (l : Option Limit) → green_level (empty_green l) t ≡ fill_if l w on h t
    go None = refl
    go (Some l) = omega (arith, zero' l.rate)

empty_limit : (l : Option Limit) → limit_of (empty_green l) ≡ l
empty_limit None = refl
empty_limit (Some l) = refl

pub unused_terms : (w : Terms) → terms_of (unused w) ≡ w
unused_terms w = ap (λ l. record { base = w.base; per_byte = w.per_byte; all = w.all; green = l; excess = w.excess }) (empty_limit w.green)

pub tracks_new : (k : Key) (h : History) (w : Terms) → carried_key h k ≡ false → Tracks w (on_flow k) h (unused w)
tracks_new k h w n = record {
  terms = unused_terms w;
  past = omega arith;
  all = λ t le. let z = fill_zero w.all.rate (charges_of (counts (on_flow k)) w h) t (cost_zero w k (counts (on_flow k)) (λ e q. q) h n) in omega arith;
  green = λ t le. green_unused (on_flow k) h w t (λ rate. fill_zero rate (charges_of (counts_green (on_flow k)) w h) t (cost_zero w k (counts_green (on_flow k)) (λ e q. ap (λ v. v && carried_green e.answer) q) h n));
}

-- nothing offered
pub tracks_none_yet : (on : Offer → Bool) (w : Terms) → Tracks w on [] (unused w)
tracks_none_yet on w = record {
  terms = unused_terms w;
  past = omega arith;
  all = λ t le. omega arith;
  green = λ t le. green_unused on [] w t (λ rate. refl);
}
