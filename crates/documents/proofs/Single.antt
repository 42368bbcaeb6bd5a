-- The single rate three colour marker against its token steps.
-- Assumes nothing.
use Rattle.std.proofs.Common.{◌≡◌, ℕ, ◌+◌, ◌-◌, ◌*◌, ◌≤◌, Bool, true, false, cond, ◌&&◌, leb, List, Ok, refl, ap, ◌∙◌, arith}
use Rattle.std.proofs.lemmas.Bool.{le-leb, leb-true}
use Rattle.meter.specs.declared.measures.Arrival.{Arrival}
use Rattle.meter.specs.declared.measures.Colour.{Colour}
use Rattle.meter.specs.declared.measures.PacketColour.{PacketColour}
use Rattle.meter.specs.declared.measures.PacketColour.TheVariants.{Green, Yellow, Red}
use Rattle.meter.specs.declared.measures.State.{State}
use Rattle.meter.specs.declared.measures.Terms.{Terms}
use Rattle.meter.specs.Rules.{fitting, counted, cost, terms_of, unused}
use Rattle.meter.specs.Alone.{best_of, by_colour, colour_of, charged_as, answers}
use Rattle.kinds.specs.Kinds.{grains_a_byte}
use Rattle.kinds.specs.Making.{single_terms}
use Rattle.documents.specs.Documents.{Outcome, at, tokens, Buckets, sr_filled, took, sr_awarely, sr_aware, stepped, full, Rising}
use Rattle.documents.proofs.Readings.{Reads, reads_later, reads_charged, reads_as, reads_fits, reads_none, best_by, runs}
use Rattle.documents.proofs.Uncoloured.{same_test}

-- of two tests only the second decides, where the first follows from it
second_decides : (x y v : Bool) → y ≡ v → (v ≡ true → x ≡ true) → (x && y) ≡ v
second_decides true y v e f = e
second_decides false y true e f = f refl
second_decides false y false e f = refl

module _ (cir cbs ebs : ℕ) where
  abbrev w : Terms
  w = single_terms cir cbs ebs

  abbrev C : ℕ
  C = cbs * grains_a_byte

  abbrev E : ℕ
  E = ebs * grains_a_byte

  -- green holds what Tc lacks, and `all` what both lack
  abbrev Lacks : State → Buckets → ℕ → Type 0
  Lacks m b t =
      Reads m w t ((cbs + ebs) * grains_a_byte - (b.first + b.second)) (C - b.first)
      × (b.first ≤ C) × (b.second ≤ E) × (b.up_to ≡ t)

  -- filling keeps it
  filled_lacks : (m : State) (b : Buckets) (t u : ℕ) → Lacks m b t → t ≤ u → Lacks m (sr_filled cir cbs ebs b u) u
  filled_lacks m b t u (r, low, low', is) le =
      let same : cir * (u - b.up_to) ≡ cir * (u - t) = ap (λ x. cir * (u - x)) is in
      (reads_as _ _ (reads_later u r le) (omega arith) (omega arith), omega arith, omega arith, refl)

  module _ (m : State) (b : Buckets) (a : Arrival) (l : Lacks m b (at a)) where
    abbrev n : ℕ
    n = tokens a

    charge_is : cost (terms_of m) a.size.0 ≡ n
    charge_is = ap (λ x. cost x a.size.0) l.0.terms ∙ omega arith

    abbrev all : ℕ
    all = (cbs + ebs) * grains_a_byte - (b.first + b.second)

    abbrev green : ℕ
    green = C - b.first

    abbrev c : ℕ
    c = cost w a.size.0

    roomy : n ≤ b.first + b.second → leb (all + c) ((cbs + ebs) * grains_a_byte) ≡ true
    roomy h = le-leb (all + c) ((cbs + ebs) * grains_a_byte) (omega (arith, l.1, l.2))

    green_fits : (v : Bool) → leb n b.first ≡ v → fitting m a.size.0 (at a) Colour.Green ≡ v
    green_fits v e =
        reads_fits a.size.0 Colour.Green l.0
        ∙ second_decides (leb (all + c) ((cbs + ebs) * grains_a_byte)) (leb (green + c) C) v
        (same_test (green + c) C n b.first v e (λ h. omega (arith, l.1)) (λ h. omega (arith, l.1)))
        (λ t. let h = leb-true n b.first (e ∙ t) in roomy (omega arith))

    yellow_fits : (v : Bool) → leb n b.second ≡ v → fitting m a.size.0 (at a) Colour.Yellow ≡ v
    yellow_fits v e =
        reads_fits a.size.0 Colour.Yellow l.0
        ∙ second_decides (leb (all + c) ((cbs + ebs) * grains_a_byte)) (leb ((all - green) + c) E) v
        (same_test ((all - green) + c) E n b.second v e (λ h. omega (arith, l.1, l.2)) (λ h. omega (arith, l.1, l.2)))
        (λ t. let h = leb-true n b.second (e ∙ t) in roomy (omega arith))

    green_left : leb n b.first ≡ true → Lacks (counted m (at a) (cost (terms_of m) a.size.0) Colour.Green) (took n 0 b) (at a)
    green_left e =
        let h = leb-true n b.first e in
        (reads_as _ _ (reads_charged (cost (terms_of m) a.size.0) Colour.Green l.0) (omega (arith, l.1, l.2, charge_is)) (omega (arith, l.1, l.2, charge_is)), omega (arith, l.1), omega (arith, l.2), l.3)

    yellow_left : leb n b.second ≡ true → Lacks (counted m (at a) (cost (terms_of m) a.size.0) Colour.Yellow) (took 0 n b) (at a)
    yellow_left e =
        let h = leb-true n b.second e in
        (reads_as _ _ (reads_charged (cost (terms_of m) a.size.0) Colour.Yellow l.0) (omega (arith, l.1, l.2, charge_is)) (omega (arith, l.1, l.2)), omega (arith, l.1), omega (arith, l.2), l.3)

    -- the document's answer, by its two tests
    abbrev judged : PacketColour → Bool → Bool → Outcome Buckets
    judged Green x y = cond x (record { colour = Green; keeps = took n 0 b }) (cond y (record { colour = Yellow; keeps = took 0 n b }) (record { colour = Red; keeps = b }))
    judged Yellow x y = cond y (record { colour = Yellow; keeps = took 0 n b }) (record { colour = Red; keeps = b })
    judged Red x y = record { colour = Red; keeps = b }

    same : (k : PacketColour) (x y : Bool) → colour_of (best_of (by_colour x y) k) ≡ (judged k x y).colour
    same Green true y = refl
    same Green false true = refl
    same Green false false = refl
    same Yellow x true = refl
    same Yellow x false = refl
    same Red x y = refl

    left : (k : PacketColour) (x y : Bool) → leb n b.first ≡ x → leb n b.second ≡ y → Lacks (charged_as m a (Ok (judged k x y).colour)) (judged k x y).keeps (at a)
    left Green true y p q = green_left p
    left Green false true p q = yellow_left q
    left Green false false p q = l
    left Yellow x true p q = yellow_left q
    left Yellow x false p q = l
    left Red x y p q = l

    abbrev Alike : PacketColour → Outcome Buckets → Type 0
    Alike k o = (colour_of (best_of (fitting m a.size.0 (at a)) k) ≡ o.colour) × Lacks (charged_as m a (Ok o.colour)) o.keeps (at a)

    by_tests : (k : PacketColour) → Alike k (judged k (leb n b.first) (leb n b.second))
    by_tests k =
        let x = leb n b.first in
        let y = leb n b.second in (
          ap colour_of (best_by (fitting m a.size.0 (at a)) x y k (green_fits x refl) (yellow_fits y refl)) ∙ same k x y,
          left k x y refl refl,
        )

    -- filled up to the packet, both answer alike
    at_once : (k : PacketColour) → Alike k (sr_awarely k n b)
    at_once Green = by_tests Green
    at_once Yellow = by_tests Yellow
    at_once Red = by_tests Red

  pub sr_runs : (arrivals : List Arrival) → Rising 0 arrivals → answers (unused w) arrivals ≡ stepped (sr_aware cir cbs ebs) (full cbs ebs) arrivals
  sr_runs arrivals up =
      runs (sr_aware cir cbs ebs) Lacks (λ m d t r. r.0.past)
      (λ m d t a r le. at_once m (sr_filled cir cbs ebs d (at a)) a (filled_lacks m d t (at a) r le) a.colour)
      arrivals (unused w) (full cbs ebs) 0
      (reads_as _ _ (reads_none w) (omega arith) (omega arith), omega arith, omega arith, refl) up
