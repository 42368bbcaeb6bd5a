-- GCRA in its two forms and the token bucket, which know no colours, against their own steps.
-- Assumes nothing.
use Rattle.std.proofs.Common.{◌≡◌, ℕ, ◌+◌, ◌-◌, ◌*◌, ◌<◌, ◌≤◌, min, max, Bool, true, false, leb, List, Ok, refl, ap, ◌∙◌, arith}
use Rattle.std.proofs.Math.Bool.{and-true}
use Rattle.std.proofs.lemmas.Bool.{le-leb, lt-leb, leb-true, leb-false}
use Rattle.meter.specs.declared.measures.Arrival.{Arrival}
use Rattle.meter.specs.declared.measures.Colour.{Colour}
use Rattle.meter.specs.declared.measures.PacketColour.{PacketColour}
use Rattle.meter.specs.declared.measures.PacketColour.TheVariants.{Green, Yellow, Red}
use Rattle.meter.specs.declared.measures.State.{State}
use Rattle.meter.specs.declared.measures.Terms.{Terms}
use Rattle.meter.specs.Rules.{fitting, counted, cost, terms_of, unused}
use Rattle.meter.specs.Alone.{best_of, by_colour, best_for, colour_of, charged_as, answers}
use Rattle.kinds.specs.Kinds.{grains_a_byte}
use Rattle.kinds.specs.Making.{gcra_terms, token_terms}
use Rattle.documents.specs.Documents.{at, tokens, uncoloured, vs_step, Leaky, drained, lb_step, Bucket, tb_step, stepped, Rising}
use Rattle.documents.proofs.Readings.{Reads, reads_later, reads_charged, reads_as, reads_fits, reads_none, best_by, runs}

-- one test is as another, where each number decides the other
pub same_test : (a b c d : ℕ) (v : Bool) → leb c d ≡ v → (c ≤ d → a ≤ b) → (d < c → b < a) → leb a b ≡ v
same_test a b c d true e f g = le-leb a b (f (leb-true c d e))
same_test a b c d false e f g = lt-leb a b (g (leb-false c d e))

-- a packet at a meter at which green and yellow fit alike
module _ {D : Type 0} (R : State → D → ℕ → Type 0) (m : State) (a : Arrival) (d next : D) where
  abbrev f : Colour → Bool
  f = fitting m a.size.0 (at a)

  uncoloured_one : (v : Bool) → f Colour.Green ≡ v → f Colour.Yellow ≡ v → R m d (at a) →
      (v ≡ true → (k : Colour) → R (counted m (at a) (cost (terms_of m) a.size.0) k) next (at a)) →
      (colour_of (best_for m a) ≡ (uncoloured a.colour v d next).colour)
      × R (charged_as m a (Ok (uncoloured a.colour v d next).colour)) (uncoloured a.colour v d next).keeps (at a)
  uncoloured_one v p q stays goes =
      (ap colour_of (best_by f v v a.colour p q) ∙ same a.colour v, left a.colour v stays goes)
    where
      same : (c : PacketColour) (v : Bool) → colour_of (best_of (by_colour v v) c) ≡ (uncoloured c v d next).colour
      same Green true = refl
      same Green false = refl
      same Yellow true = refl
      same Yellow false = refl
      same Red v = refl

      left : (c : PacketColour) (v : Bool) → R m d (at a) →
          (v ≡ true → (k : Colour) → R (counted m (at a) (cost (terms_of m) a.size.0) k) next (at a)) →
          R (charged_as m a (Ok (uncoloured c v d next).colour)) (uncoloured c v d next).keeps (at a)
      left Green true s g = g refl Colour.Green
      left Green false s g = s
      left Yellow true s g = g refl Colour.Yellow
      left Yellow false s g = s
      left Red v s g = s

module _ (T L : ℕ) where
  abbrev w : Terms
  w = gcra_terms T L

  -- both colours fit where the cost stays within T + L
  gcra_fits : {m : State} {t x : ℕ} (n : ℕ) (v : Bool) → Reads m w t x 0 → leb (x + cost w n) ((T + L) * 1) ≡ v → (fitting m n t Colour.Green ≡ v) × (fitting m n t Colour.Yellow ≡ v)
  gcra_fits n v r e = (reads_fits n Colour.Green r ∙ and-true _ ∙ e, reads_fits n Colour.Yellow r ∙ and-true _ ∙ e)

  -- the charge, at the meter's own terms
  charged_as_lem : {m : State} {t x : ℕ} (n : ℕ) (k : Colour) (x' : ℕ) → Reads m w t x 0 → x + T ≡ x' → Reads (counted m t (cost (terms_of m) n) k) w t x' 0
  charged_as_lem {m} {t} {x} n k x' r e =
      let c : cost (terms_of m) n ≡ T = ap (λ u. cost u n) r.terms ∙ omega arith in
      reads_as x' 0 (reads_charged (cost (terms_of m) n) k r) (omega arith) refl

  abbrev Due : State → ℕ → ℕ → Type 0
  Due m tat t = Reads m w t (tat - t) 0

  due_one : (m : State) (tat t : ℕ) (a : Arrival) → Due m tat t → t ≤ at a →
      (colour_of (best_for m a) ≡ (vs_step T L tat a).colour) × Due (charged_as m a (Ok (vs_step T L tat a).colour)) (vs_step T L tat a).keeps (at a)
  due_one m tat t a r le =
      let r' : Due m tat (at a) = reads_as (tat - at a) 0 (reads_later (at a) r le) (omega arith) (omega arith) in
      let v = leb tat (at a + L) in
      let fits = gcra_fits a.size.0 v r' (same_test _ _ tat (at a + L) v refl (λ h. omega arith) (λ h. omega arith)) in
      uncoloured_one Due m a tat (max (at a) tat + T) v fits.0 fits.1 r' (λ e k. charged_as_lem a.size.0 k _ r' (omega arith))

  pub vs_runs : (arrivals : List Arrival) → Rising 0 arrivals → answers (unused w) arrivals ≡ stepped (vs_step T L) 0 arrivals
  vs_runs arrivals up = runs (vs_step T L) Due (λ m d t r. r.past) due_one arrivals (unused w) 0 0 (reads_none w) up

  abbrev Holds : State → Leaky → ℕ → Type 0
  Holds m b t = Reads m w t (drained b t) 0 × (b.last ≤ t)

  level_one : (m : State) (b : Leaky) (t : ℕ) (a : Arrival) → Holds m b t → t ≤ at a →
      (colour_of (best_for m a) ≡ (lb_step T L b a).colour) × Holds (charged_as m a (Ok (lb_step T L b a).colour)) (lb_step T L b a).keeps (at a)
  level_one m b t a (r, le') le =
      let r' : Reads m w (at a) (drained b (at a)) 0 = reads_as (drained b (at a)) 0 (reads_later (at a) r le) (omega arith) (omega arith) in
      let v = leb (drained b (at a)) L in
      let fits = gcra_fits a.size.0 v r' (same_test _ _ (drained b (at a)) L v refl (λ h. omega arith) (λ h. omega arith)) in
      uncoloured_one Holds m a b (record { level = drained b (at a) + T; last = at a }) v fits.0 fits.1 (r', omega arith)
      (λ e k. (charged_as_lem a.size.0 k _ r' (omega arith), omega arith))

  pub lb_runs : (arrivals : List Arrival) → Rising 0 arrivals → answers (unused w) arrivals ≡ stepped (lb_step T L) (record { level = 0; last = 0 }) arrivals
  lb_runs arrivals up = runs (lb_step T L) Holds (λ m d t r. r.0.past) level_one arrivals (unused w) (record { level = 0; last = 0 }) 0 (reads_none w, omega arith) up

module _ (rate burst : ℕ) where
  abbrev u : Terms
  u = token_terms rate burst

  abbrev depth : ℕ
  depth = burst * grains_a_byte

  abbrev Tokens : State → Bucket → ℕ → Type 0
  Tokens m b t = Reads m u t (depth - b.count) 0 × (b.count ≤ depth) × (b.up_to ≡ t)

  token_one : (m : State) (b : Bucket) (t : ℕ) (a : Arrival) → Tokens m b t → t ≤ at a →
      (colour_of (best_for m a) ≡ (tb_step rate burst b a).colour) × Tokens (charged_as m a (Ok (tb_step rate burst b a).colour)) (tb_step rate burst b a).keeps (at a)
  token_one m b t a (r, low, is) le =
      let have = min depth (b.count + rate * (at a - b.up_to)) in
      let same : rate * (at a - b.up_to) ≡ rate * (at a - t) = ap (λ x. rate * (at a - x)) is in
      let r' : Reads m u (at a) (depth - have) 0 = reads_as (depth - have) 0 (reads_later (at a) r le) (omega arith) (omega arith) in
      let v = leb (tokens a) have in
      let test : leb ((depth - have) + cost u a.size.0) depth ≡ v = same_test _ _ (tokens a) have v refl (λ h. omega arith) (λ h. omega arith) in
      let c : cost (terms_of m) a.size.0 ≡ tokens a = ap (λ x. cost x a.size.0) r.terms ∙ omega arith in
      uncoloured_one Tokens m a (record { count = have; up_to = at a }) (record { count = have - tokens a; up_to = at a }) v
      (reads_fits a.size.0 Colour.Green r' ∙ and-true _ ∙ test)
      (reads_fits a.size.0 Colour.Yellow r' ∙ and-true _ ∙ test)
      (r', omega arith, refl)
      (λ e k. (reads_as (depth - (have - tokens a)) 0 (reads_charged (cost (terms_of m) a.size.0) k r') (omega (arith, leb-true (tokens a) have e)) refl, omega arith, refl))

  pub tb_runs : (arrivals : List Arrival) → Rising 0 arrivals → answers (unused u) arrivals ≡ stepped (tb_step rate burst) (record { count = depth; up_to = 0 }) arrivals
  tb_runs arrivals up =
      runs (tb_step rate burst) Tokens (λ m d t r. r.0.past) token_one arrivals (unused u) (record { count = depth; up_to = 0 }) 0
      (reads_as (depth - depth) 0 (reads_none u) (omega arith) refl, omega arith, refl) up
