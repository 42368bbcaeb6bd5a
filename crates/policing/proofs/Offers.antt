-- Each way out of an offer: the answer is that of the history, and the longer history is held. Assumes nothing.
use Rattle.std.proofs.Common.{◌≡◌, ℕ, suc, ◌<◌, ◌≤◌, Bool, true, false, cond, not, ◌&&◌, eqb, List, [], ◌∷◌, ◌++◌, map, length, Some, None, Ok, Err, vec_items, Option, sym, refl, ap, ◌∙◌, subst, ⊎_elim, arith}
use Rattle.std.proofs.lemmas.List.{length-map}
use Rattle.std.proofs.lemmas.Bool.{cases_Bool, cases_lt, eq-eqb, ne_eqb}
use Rattle.meter.specs.declared.measures.State.{State}
use Rattle.meter.specs.Rules.{unused}
use Rattle.packet.specs.declared.kinds.Key.{Key}
use Rattle.packet.specs.declared.kinds.Key.TheVariants.{Conversation, Station}
use Rattle.policy.specs.declared.rules.Rule.{Rule}
use Rattle.policy.specs.declared.rules.Selector.{Selector}
use Rattle.policy.specs.Rules.{matches, next, first_for}
use Rattle.history.specs.declared.answers.Refusal.{Refusal}
use Rattle.history.specs.declared.answers.Refusal.TheVariants.{Backward, TableFull}
use Rattle.history.specs.Answers.{Answer, is_backward, judged}
use Rattle.history.specs.Histories.{RuleTerms, Config, History, entry_of, room, clock_of, on_flow, nodes_of, flow_terms, carried_key, keys_like, fits_for, over_for, answer_for, answer_of}
use Rattle.history.specs.Tracks.{Tracks, Fair}
use Rattle.history.proofs.Longer.{clock_snoc, answer_back, answer_on}
use Rattle.history.proofs.Tracking.{tracks_new}
use Rattle.flow.proofs.Whole.{sound}
use Rattle.policing.specs.declared.cores.Core.{Core}
use Rattle.policing.specs.declared.cores.Flow.{Flow}
use Rattle.policing.specs.declared.cores.Offer.{Offer}
use Rattle.policing.specs.Flows.{HeldBy, MissingBy, used_by, room_by}
use Rattle.policing.specs.Moving.{Same, RuleAt, Settles}
use Rattle.policing.specs.Holding.{flow_of, offer_of, RuledBy, Ruled, rule_of, config_of, Holds}
use Rattle.policing.proofs.Carrying.{item, moved, rule_first, holds_refused, settled}

never' : {A : Type 0} → true ≡ false → A
never' e = cc

room_is : {M : Type 0} (f : M → State) (p : Core M) (k : Key) → room (config_of f p) k ≡ room_by p.flows k
room_is f p (Conversation k) = refl
room_is f p (Station k) = refl

used_within : {M : Type 0} (p : Core M) (k : Key) → used_by p.flows k ≤ room_by p.flows k
used_within p (Conversation k) = (sound p.flows.conversations).room
used_within p (Station k) = (sound p.flows.stations).room

first_within : (ss : List Selector) (k : Key) (i : ℕ) → first_for ss k ≡ Some i → i < length ss
first_within [] k i e = cc
first_within (s ∷ ss) k i e = go (matches s k) (first_for ss k) (first_within ss k) e
  where
    go : (b : Bool) (o : Option ℕ) → ((j : ℕ) → o ≡ Some j → j < length ss) → cond b (Some 0) (next o) ≡ Some i → i < suc (length ss)
    go true o more e = let z : 0 ≡ i = cc in omega arith
    go false (Some j) more e = let z : suc j ≡ i = cc in omega (arith, more j refl)
    go false None more e = cc

not_held : {M : Type 0} (p : Core M) (k : Key) → ((m : M) → HeldBy p.flows k m → ⊥) → MissingBy p.flows k
not_held {M} p (Conversation k) none = λ i lt keyed. none keyed.0.meter (i, keyed.0, lt, keyed.1, keyed.2, refl)
not_held {M} p (Station k) none = λ i lt keyed. none keyed.0.meter (i, keyed.0, lt, keyed.1, keyed.2, refl)

module _ {M : Type 0} (f : M → State) (p : Core M) (o : Offer) where
  -- what an answer is to be, and what is to hold after it
  abbrev Kept : Core M → Answer → Config → History → Type 0
  Kept q r g h = (r ≡ answer_of g h (offer_of o)) × Holds f g q (h ++ (entry_of (offer_of o) r ∷ []))

  abbrev Step : Core M → Answer → Type 0
  Step q r = (h : History) → Holds f (config_of f p) p h → Fair (offer_of o) → Ruled p o → Kept q r (config_of f p) h

  pub at_config : (q : Core M) (r : Answer) → Step q r → (g : Config) (h : History) → Holds f g p h → Fair (offer_of o) → Ruled p o → Kept q r g h
  at_config q r step g h hold fair ruled = subst (λ v. Kept q r v h) hold.is (step h (subst (λ v. Holds f v p h) (sym hold.is) hold) fair ruled)

  unchanged : (t : _) → Same (moved p t) (moved p t)
  unchanged t = record { flows = ((refl, refl, refl), (refl, refl, refl)); nodes = refl; parents = refl; rules = refl; clock = refl }

  pub went_back : o.load.moment.0 < p.clock.0 → Step p (Err Backward)
  went_back lt h hold fair ruled =
      let is = answer_back (config_of f p) h (offer_of o) (omega (arith, hold.clock)) in
      (sym is, holds_refused f p p h (offer_of o) Backward p.clock hold (unchanged p.clock) (hold.clock ∙ sym (clock_snoc 0 h (entry_of (offer_of o) (Err Backward)))) (sym is))

  -- refused before any meter is asked, and in time
  refused_on : (h : History) (e : Refusal) → Holds f (config_of f p) p h → is_backward e ≡ false → Err e ≡ answer_of (config_of f p) h (offer_of o) → (q : Core M) → Same (moved p o.load.moment) q → Holds f (config_of f p) q (h ++ (entry_of (offer_of o) (Err e) ∷ []))
  refused_on h e hold timely is q same =
      holds_refused f p q h (offer_of o) e o.load.moment hold same (sym (clock_snoc 0 h (entry_of (offer_of o) (Err e)) ∙ ap (λ b. cond b (clock_of h) o.load.moment.0) timely)) is

  pub was_flowless : (e : Refusal) → o.flow ≡ Err e → p.clock.0 ≤ o.load.moment.0 → Step (moved p o.load.moment) (Err e)
  was_flowless e flow late h hold fair ruled =
      let late' : clock_of h ≤ o.load.moment.0 = omega (arith, hold.clock) in
      let is : answer_of (config_of f p) h (offer_of o) ≡ Err e = answer_on (config_of f p) h (offer_of o) late' ∙ ap (λ v. answer_for (config_of f p) h (offer_of o) (flow_of v)) flow in
      (sym is, refused_on h e hold (subst (RuledBy (vec_items p.rules)) flow ruled) (sym is) (moved p o.load.moment) (unchanged o.load.moment))

  pub was_settled : (q : Core M) (r : Answer) (w : Flow) → o.flow ≡ Ok w → p.clock.0 ≤ o.load.moment.0 →
      ((x : Rule M) → RuleAt (vec_items p.rules) w.rule x → Settles f (moved p o.load.moment) q o.load w x r) → Step q r
  was_settled q r w flow late settles h hold fair ruled =
      let g = config_of f p in
      let k = w.key in
      let late' : clock_of h ≤ o.load.moment.0 = omega (arith, hold.clock) in
      let first : first_for (map (λ (y : Rule M). y.selector) (vec_items p.rules)) k ≡ Some w.rule = subst (RuledBy (vec_items p.rules)) flow ruled in
      let in_List = first_within (map (λ (y : Rule M). y.selector) (vec_items p.rules)) k w.rule first in
      let lt : w.rule < length (vec_items p.rules) = subst (λ n. w.rule < n) (length-map (vec_items p.rules) (λ (y : Rule M). y.selector)) in_List in
      let xx = item (vec_items p.rules) w.rule lt in
      let x = xx.0 in
      let at : RuleAt (vec_items p.rules) w.rule x = (lt, xx.1) in
      let s = settles x at in
      ⊎_elim
      (λ (b : carried_key h k ≡ true).
      let held = hold.rows k b in
      settled f p q h o w x held.0 hold fair flow first at late' (hold.flows k held.0 held.1).1 r 0
      (ap (λ v. not v && eqb (keys_like k h) (room g k)) b) (sym (ap {B = ℕ} (λ v. cond v 0 1) b)) (s.known held.0 held.1))
      (λ (b : carried_key h k ≡ false).
      let missing = not_held p k (λ m held. never' (sym (hold.flows k m held).0 ∙ b)) in
      ⊎_elim
      (λ (free : used_by p.flows k < room_by p.flows k).
      let terms : (rule_of f x).terms ≡ flow_terms g k = sym (ap (λ (v : RuleTerms). v.terms) (rule_first f (vec_items p.rules) k w.rule x first at)) in
      let fresh : f x.meter ≡ unused (flow_terms g k) = (hold.ready.roots w.rule x at).1 ∙ ap unused terms in
      settled f p q h o w x x.meter hold fair flow first at late' (subst (Tracks (flow_terms g k) (on_flow k) h) (sym fresh) (tracks_new k h (flow_terms g k) b)) r 1
      (ap (λ v. not v && eqb (keys_like k h) (room g k)) b ∙ ne_eqb (keys_like k h) (room g k) (λ e. omega (arith, hold.used k, room_is f p k))) (sym (ap {B = ℕ} (λ v. cond v 0 1) b)) (s.unknown missing free))
      (λ (full : room_by p.flows k ≤ used_by p.flows k).
      let done = s.full missing full in
      let whole = used_within p k in
      let all : keys_like k h ≡ room g k = omega (arith, hold.used k, room_is f p k) in
      let rest = judged (fits_for g h (offer_of o) k) (over_for g h (offer_of o) k) w.arrival (0 ∷ nodes_of g (offer_of o)) in
      let is : answer_of g h (offer_of o) ≡ Err TableFull =
      answer_on g h (offer_of o) late' ∙ ap (λ v. answer_for g h (offer_of o) (flow_of v)) flow
      ∙ ap (λ v. cond (not v && eqb (keys_like k h) (room g k)) (Err TableFull) rest) b ∙ ap (λ v. cond v (Err TableFull) rest) (eq-eqb (keys_like k h) (room g k) all) in (
        done.0 ∙ sym is,
        subst (λ v. Holds f g q (h ++ (entry_of (offer_of o) v ∷ []))) (sym done.0) (refused_on h TableFull hold refl (sym is) q done.1),
      ))
      (cases_lt (used_by p.flows k) (room_by p.flows k)))
      (cases_Bool (carried_key h k))
