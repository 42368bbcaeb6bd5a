-- The two rate three colour marker against its token steps.
-- Assumes nothing.
use Rattle.std.proofs.Common.{◌≡◌, ℕ, ◌+◌, ◌-◌, ◌*◌, ◌≤◌, Bool, true, false, cond, not, ◌&&◌, ltb, leb, List, Ok, refl, ap, ◌∙◌, arith}
use Rattle.std.proofs.lemmas.Bool.{le-leb, lt-leb, ltb-true, ltb-false}
use Rattle.meter.specs.declared.measures.Arrival.{Arrival}
use Rattle.meter.specs.declared.measures.Colour.{Colour}
use Rattle.meter.specs.declared.measures.PacketColour.{PacketColour}
use Rattle.meter.specs.declared.measures.PacketColour.TheVariants.{Green, Yellow, Red}
use Rattle.meter.specs.declared.measures.State.{State}
use Rattle.meter.specs.declared.measures.Terms.{Terms}
use Rattle.meter.specs.Rules.{fitting, counted, cost, terms_of, unused}
use Rattle.meter.specs.Alone.{best_of, by_colour, colour_of, charged_as, answers}
use Rattle.kinds.specs.Kinds.{grains_a_byte}
use Rattle.kinds.specs.Making.{two_terms}
use Rattle.documents.specs.Documents.{Outcome, at, tokens, Buckets, tr_filled, took, tr_awarely, tr_aware, stepped, full, Rising}
use Rattle.documents.proofs.Readings.{Reads, reads_later, reads_charged, reads_as, reads_fits, reads_none, best_by, runs}

-- there is room exactly where the tokens are not too few
room_is : (depth count n c : ℕ) (v : Bool) → count ≤ depth → c ≡ n → ltb count n ≡ v → leb ((depth - count) + c) depth ≡ not v
room_is depth count n c true low is e = let h = ltb-true count n e in lt-leb ((depth - count) + c) depth (omega arith)
room_is depth count n c false low is e = let h = ltb-false count n e in le-leb ((depth - count) + c) depth (omega arith)

module _ (cir cbs pir pbs : ℕ) where
  abbrev w : Terms
  w = two_terms cir cbs pir pbs

  abbrev P : ℕ
  P = pbs * grains_a_byte

  abbrev C : ℕ
  C = cbs * grains_a_byte

  -- `all` holds what Tp lacks, and green what Tc lacks
  abbrev Lacks : State → Buckets → ℕ → Type 0
  Lacks m b t = Reads m w t (P - b.first) (C - b.second) × (b.first ≤ P) × (b.second ≤ C) × (b.up_to ≡ t)

  -- filling keeps it
  filled_lacks : (m : State) (b : Buckets) (t u : ℕ) → Lacks m b t → t ≤ u → Lacks m (tr_filled cir cbs pir pbs b u) u
  filled_lacks m b t u (r, low, low', is) le =
      let peak : pir * (u - b.up_to) ≡ pir * (u - t) = ap (λ x. pir * (u - x)) is in
      let committed : cir * (u - b.up_to) ≡ cir * (u - t) = ap (λ x. cir * (u - x)) is in
      (reads_as _ _ (reads_later u r le) (omega arith) (omega arith), omega arith, omega arith, refl)

  module _ (m : State) (b : Buckets) (a : Arrival) (l : Lacks m b (at a)) where
    abbrev n : ℕ
    n = tokens a

    charge_is : cost (terms_of m) a.size.0 ≡ n
    charge_is = ap (λ x. cost x a.size.0) l.0.terms ∙ omega arith

    abbrev fits : Colour → Bool
    fits = fitting m a.size.0 (at a)

    all_room : (x : Bool) → ltb b.first n ≡ x → leb ((P - b.first) + cost w a.size.0) P ≡ not x
    all_room x p = room_is P b.first n (cost w a.size.0) x l.1 (omega arith) p

    green_fits : (x y : Bool) → ltb b.first n ≡ x → ltb b.second n ≡ y → fits Colour.Green ≡ (not x && not y)
    green_fits x y p q =
        reads_fits a.size.0 Colour.Green l.0
        ∙ ap (λ v. v && leb ((C - b.second) + cost w a.size.0) C) (all_room x p)
        ∙ ap (λ v. not x && v) (room_is C b.second n (cost w a.size.0) y l.2 (omega arith) q)

    yellow_fits : (x : Bool) → ltb b.first n ≡ x → fits Colour.Yellow ≡ (not x && true)
    yellow_fits x p = reads_fits a.size.0 Colour.Yellow l.0 ∙ ap (λ v. v && true) (all_room x p)

    green_left : ltb b.first n ≡ false → ltb b.second n ≡ false → Lacks (counted m (at a) (cost (terms_of m) a.size.0) Colour.Green) (took n n b) (at a)
    green_left p q =
        let h = ltb-false b.first n p in
        let k = ltb-false b.second n q in
        (reads_as _ _ (reads_charged (cost (terms_of m) a.size.0) Colour.Green l.0) (omega (arith, l.1, charge_is)) (omega (arith, l.2, charge_is)), omega (arith, l.1), omega (arith, l.2), l.3)

    yellow_left : ltb b.first n ≡ false → Lacks (counted m (at a) (cost (terms_of m) a.size.0) Colour.Yellow) (took n 0 b) (at a)
    yellow_left p =
        let h = ltb-false b.first n p in
        (reads_as _ _ (reads_charged (cost (terms_of m) a.size.0) Colour.Yellow l.0) (omega (arith, l.1, charge_is)) (omega arith), omega (arith, l.1), omega (arith, l.2), l.3)

    -- the document's answer, by its two tests
    abbrev judged : PacketColour → Bool → Bool → Outcome Buckets
    judged Green x y = cond x (record { colour = Red; keeps = b }) (cond y (record { colour = Yellow; keeps = took n 0 b }) (record { colour = Green; keeps = took n n b }))
    judged Yellow x y = cond x (record { colour = Red; keeps = b }) (record { colour = Yellow; keeps = took n 0 b })
    judged Red x y = record { colour = Red; keeps = b }

    same : (k : PacketColour) (x y : Bool) → colour_of (best_of (by_colour (not x && not y) (not x && true)) k) ≡ (judged k x y).colour
    same Green true y = refl
    same Green false true = refl
    same Green false false = refl
    same Yellow true y = refl
    same Yellow false y = refl
    same Red x y = refl

    left : (k : PacketColour) (x y : Bool) → ltb b.first n ≡ x → ltb b.second n ≡ y → Lacks (charged_as m a (Ok (judged k x y).colour)) (judged k x y).keeps (at a)
    left Green true y p q = l
    left Green false true p q = yellow_left p
    left Green false false p q = green_left p q
    left Yellow true y p q = l
    left Yellow false y p q = yellow_left p
    left Red x y p q = l

    abbrev Alike : PacketColour → Outcome Buckets → Type 0
    Alike k o = (colour_of (best_of fits k) ≡ o.colour) × Lacks (charged_as m a (Ok o.colour)) o.keeps (at a)

    by_tests : (k : PacketColour) → Alike k (judged k (ltb b.first n) (ltb b.second n))
    by_tests k =
        let x = ltb b.first n in
        let y = ltb b.second n in
        (ap colour_of (best_by fits (not x && not y) (not x && true) k (green_fits x y refl refl) (yellow_fits x refl)) ∙ same k x y, left k x y refl refl)

    -- filled up to the packet, both answer alike
    at_once : (k : PacketColour) → Alike k (tr_awarely k n b)
    at_once Green = by_tests Green
    at_once Yellow = by_tests Yellow
    at_once Red = by_tests Red

  pub tr_runs : (arrivals : List Arrival) → Rising 0 arrivals → answers (unused w) arrivals ≡ stepped (tr_aware cir cbs pir pbs) (full pbs cbs) arrivals
  tr_runs arrivals up =
      runs (tr_aware cir cbs pir pbs) Lacks (λ m d t r. r.0.past)
      (λ m d t a r le. at_once m (tr_filled cir cbs pir pbs d (at a)) a (filled_lacks m d t (at a) r le) a.colour)
      arrivals (unused w) (full pbs cbs) 0
      (reads_as _ _ (reads_none w) (omega arith) (omega arith), omega arith, omega arith, refl) up
