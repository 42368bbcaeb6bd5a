-- A meter by its terms and the two fills that it has by a moment, and the run that such a reading gives.
-- Assumes nothing.
use Rattle.std.proofs.Common.{◌≡◌, ℕ, ◌+◌, ◌-◌, ◌*◌, ◌≤◌, Bool, true, false, cond, ◌&&◌, ltb, leb, List, [], ◌∷◌, Some, None, Ok, Err, Option, sym, refl, ap, ◌∙◌, le_trans, le_refl, arith}
use Rattle.std.proofs.lemmas.Bool.{le-leb}
use Rattle.meter.specs.declared.measures.Arrival.{Arrival}
use Rattle.meter.specs.declared.measures.Bucket.{Bucket}
use Rattle.meter.specs.declared.measures.Colour.{Colour}
use Rattle.meter.specs.declared.measures.Limit.{Limit}
use Rattle.meter.specs.declared.measures.PacketColour.{PacketColour}
use Rattle.meter.specs.declared.measures.PacketColour.TheVariants.{Green, Yellow, Red}
use Rattle.meter.specs.declared.measures.Refusal.{Refusal}
use Rattle.meter.specs.declared.measures.State.{State}
use Rattle.meter.specs.declared.measures.Terms.{Terms}
use Rattle.meter.specs.Rules.{largest_size, largest_moment, level, green_level, limit_of, cost, fits_by, fitting, counted, filled, green_filled, terms_of, unused, empty_green}
use Rattle.meter.specs.Alone.{best_of, by_colour, best_for, colour_of, charged_as, answers}
use Rattle.meter.specs.Runs.{Answer}
use Rattle.meter.proofs.Keeps.{counted_terms}
use Rattle.meter.proofs.Fill.{allowed_at_once}
use Rattle.meter.proofs.Following.{level_later}
use Rattle.documents.specs.Documents.{Outcome, stepped, Rising, at}

abbrev pub green_rate : Option Limit → ℕ
green_rate None = 0
green_rate (Some l) = l.rate

-- the green fill after a charge
abbrev pub green_after : Option Limit → ℕ → ℕ → Colour → ℕ
green_after None fill c k = fill
green_after (Some l) fill c Colour.Green = fill + c
green_after (Some l) fill c Colour.Yellow = fill

abbrev GreenPast : Option Bucket → ℕ → Type 0
GreenPast None t = Unit {0}
GreenPast (Some g) t = g.last.0 ≤ t

-- by the moment t a meter on these terms has these fills
pub record Reads (m : State) (w : Terms) (t x y : ℕ) : Type 0 where
  pub terms : terms_of m ≡ w
  pub past : m.all.last.0 ≤ t
  pub green_past : GreenPast m.green t
  pub all : level m.all t ≡ x
  pub green : green_level m.green t ≡ y

green_later : (g : Option Bucket) (t u : ℕ) → GreenPast g t → t ≤ u → GreenPast g u × (green_level g u ≡ green_level g t - green_rate (limit_of g) * (u - t))
green_later None t u p le = (tt, omega arith)
green_later (Some g) t u p le = (le_trans p le, level_later g t u p le)

pub reads_later : {m : State} {w : Terms} {t all green : ℕ} (u : ℕ) → Reads m w t all green → t ≤ u →
    Reads m w u (all - w.all.rate * (u - t)) (green - green_rate w.green * (u - t))
reads_later {m} {w} {t} {all} {green} u r le =
    let g = green_later m.green t u r.green_past le in
    record {
      terms = r.terms;
      past = le_trans r.past le;
      green_past = g.0;
      all = level_later m.all t u r.past le ∙ ap (λ x. x - m.all.limit.rate * (u - t)) r.all ∙ ap (λ v. all - v.all.rate * (u - t)) r.terms;
      green = g.1 ∙ ap (λ x. x - green_rate (limit_of m.green) * (u - t)) r.green ∙ ap (λ v. green - green_rate v.green * (u - t)) r.terms;
    }

level_now : (b : Bucket) (t c : ℕ) → level (filled b t c) t ≡ level b t + c
level_now b t c = omega (arith, allowed_at_once b.limit.rate t)

green_charged : (g : Option Bucket) (t c : ℕ) (k : Colour) → GreenPast g t →
    GreenPast (green_filled g t c k) t × (green_level (green_filled g t c k) t ≡ green_after (limit_of g) (green_level g t) c k)
green_charged None t c k p = (tt, refl)
green_charged (Some g) t c Colour.Green p = (le_refl t, level_now g t c)
green_charged (Some g) t c Colour.Yellow p = (p, refl)

pub reads_charged : {m : State} {w : Terms} {t all green : ℕ} (c : ℕ) (k : Colour) → Reads m w t all green →
    Reads (counted m t c k) w t (all + c) (green_after w.green green c k)
reads_charged {m} {w} {t} {all} {green} c k r =
    let g = green_charged m.green t c k r.green_past in
    record {
      terms = counted_terms m t c k ∙ r.terms;
      past = le_refl t;
      green_past = g.0;
      all = level_now m.all t c ∙ ap (λ x. x + c) r.all;
      green = g.1 ∙ ap (λ x. green_after (limit_of m.green) x c k) r.green ∙ ap (λ v. green_after v.green green c k) r.terms;
    }

-- the same reading, by other names of its fills
pub reads_as : {m : State} {w : Terms} {t x y : ℕ} (x' y' : ℕ) → Reads m w t x y → x ≡ x' → y ≡ y' → Reads m w t x' y'
reads_as x' y' r p q = record { terms = r.terms; past = r.past; green_past = r.green_past; all = r.all ∙ p; green = r.green ∙ q }

-- a reading tells what fits
pub reads_fits : {m : State} {w : Terms} {t all green : ℕ} (n : ℕ) (k : Colour) → Reads m w t all green → fitting m n t k ≡ fits_by w all green (cost w n) k
reads_fits {m} {w} {t} {all} {green} n k r =
    ap (λ v. fits_by v (level m.all t) (green_level m.green t) (cost v n) k) r.terms
    ∙ ap (λ x. fits_by w x (green_level m.green t) (cost w n) k) r.all
    ∙ ap (λ x. fits_by w all x (cost w n) k) r.green

-- only the two answers matter to the best colour
pub best_by : (f : Colour → Bool) (g y : Bool) (a : PacketColour) → f Colour.Green ≡ g → f Colour.Yellow ≡ y → best_of f a ≡ best_of (by_colour g y) a
best_by f g y Green p q =
    ap (λ b. cond b (Some Colour.Green) (cond (f Colour.Yellow) (Some Colour.Yellow) None)) p
    ∙ ap (λ b. cond g (Some Colour.Green) (cond b (Some Colour.Yellow) None)) q
best_by f g y Yellow p q = ap (λ b. cond b (Some Colour.Yellow) None) q
best_by f g y Red p q = refl

pub reads_none : (w : Terms) → Reads (unused w) w 0 0 0
reads_none w =
    record { terms = ap (λ g. record { base = w.base; per_byte = w.per_byte; all = w.all; green = g; excess = w.excess }) (back w.green); past = le_refl 0; green_past = none w.green; all = omega arith; green = empty w.green }
  where
    none : (l : Option Limit) → GreenPast (empty_green l) 0
    none None = tt
    none (Some l) = le_refl 0

    empty : (l : Option Limit) → green_level (empty_green l) 0 ≡ 0
    empty None = refl
    empty (Some l) = omega arith

    back : (l : Option Limit) → limit_of (empty_green l) ≡ l
    back None = refl
    back (Some l) = refl

-- moments that do not fall from a later start do not from an earlier one
sooner : (s t : ℕ) (arrivals : List Arrival) → s ≤ t → Rising t arrivals → Rising s arrivals
sooner s t [] le r = tt
sooner s t (a ∷ rest) le r = (le_trans le r.0, r.1)

-- A run of the meter is a run of the steps, if one arrival that no meter refuses is: R ties a meter to what the steps
-- keep, by a moment.
module _ {D : Type 0} (f : D → Arrival → Outcome D) (R : State → D → ℕ → Type 0)
    (past : (m : State) (d : D) (t : ℕ) → R m d t → m.all.last.0 ≤ t)
    (one : (m : State) (d : D) (t : ℕ) (a : Arrival) → R m d t → t ≤ at a → (colour_of (best_for m a) ≡ (f d a).colour) × R (charged_as m a (Ok (f d a).colour)) (f d a).keeps (at a))
  where
    -- the next arrival, and what is left behind it: refused, both are as they were
    module _ (m : State) (d : D) (t : ℕ) (a : Arrival) (rest : List Arrival) (r : R m d t) (le : t ≤ at a)
        (idle : answers m rest ≡ stepped f d rest)
        (later : answers (charged_as m a (Ok (f d a).colour)) rest ≡ stepped f (f d a).keeps rest)
      where
        abbrev first : Answer → List Answer
        first x = x ∷ answers (charged_as m a x) rest

        abbrev judged : Bool → Answer
        judged z = cond z (Ok (colour_of (best_for m a))) (Err Refusal.Backward)

        abbrev timed : Bool → Answer
        timed y = cond y (judged (leb m.all.last.0 (at a))) (Err Refusal.BadMoment)

        abbrev sized : Bool → Answer
        sized x = cond x (timed (leb (at a) largest_moment)) (Err Refusal.BadSize)

        abbrev here : Bool → List Answer
        here y = cond y (Ok (f d a).colour ∷ stepped f (f d a).keeps rest) (Err Refusal.BadMoment ∷ stepped f d rest)

        abbrev steps : Bool → List Answer
        steps x = cond x (here (leb (at a) largest_moment)) (Err Refusal.BadSize ∷ stepped f d rest)

        turn : (x y : Bool) → (ltb 0 a.size.0 && leb a.size.0 largest_size) ≡ x → leb (at a) largest_moment ≡ y → answers m (a ∷ rest) ≡ stepped f d (a ∷ rest)
        turn false y p q = ap (λ x. first (sized x)) p ∙ ap (λ l. Err Refusal.BadSize ∷ l) idle ∙ sym (ap steps p)
        turn true false p q =
            ap (λ x. first (sized x)) p
            ∙ ap (λ y. first (timed y)) q
            ∙ ap (λ l. Err Refusal.BadMoment ∷ l) idle
            ∙ sym (ap steps p ∙ ap here q)
        turn true true p q =
            let late : leb m.all.last.0 (at a) ≡ true = le-leb _ _ (le_trans (past m d t r) le) in
            ap (λ x. first (sized x)) p
            ∙ ap (λ y. first (timed y)) q
            ∙ ap (λ z. first (judged z)) late
            ∙ ap (λ k. first (Ok k)) (one m d t a r le).0
            ∙ ap (λ l. Ok (f d a).colour ∷ l) later
            ∙ sym (ap steps p ∙ ap here q)

    pub runs : (arrivals : List Arrival) (m : State) (d : D) (t : ℕ) → R m d t → Rising t arrivals → answers m arrivals ≡ stepped f d arrivals
    runs [] m d t r up = refl
    runs (a ∷ rest) m d t r up =
        turn m d t a rest r up.0
        (runs rest m d t r (sooner t (at a) rest up.0 up.1))
        (runs rest (charged_as m a (Ok (f d a).colour)) (f d a).keeps (at a) (one m d t a r up.0).1 up.1)
        (ltb 0 a.size.0 && leb a.size.0 largest_size)
        (leb (at a) largest_moment)
        refl
        refl
