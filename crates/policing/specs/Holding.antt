-- What flows, nodes and clock hold after a history.
-- offer_of: a record as the history has it; Ruled: its rule is the first for its key, and the clock is not why it has no flow
-- rule_of, config_of: what a policer was made with
-- Ready: nodes and rules as a policy makes them; Unused: nothing was charged
-- Holds: the configuration, the answers, the clock, and the fills that the meters themselves have
-- Assumes nothing.
use Rattle.std.specs.Prelude.{◌≡◌, ℕ, ◌-◌, ◌<◌, ◌≤◌, true, false, List, map, length, Some, Ok, Err, vec_items, Result, slice_index_or}
use Rattle.meter.specs.declared.measures.State.{State}
use Rattle.meter.specs.Rules.{terms_of, unused}
use Rattle.packet.specs.declared.kinds.Key.{Key}
use Rattle.flow.specs.Tables.{rows_of}
use Rattle.policy.specs.declared.rules.Rule.{Rule}
use Rattle.policy.specs.Rules.{first_for}
use Rattle.policy.specs.Policies.{parents_of}
use Rattle.policy.specs.Trees.{Earlier, Shallow}
use Rattle.history.specs.declared.answers.Refusal.{Refusal}
use Rattle.history.specs.Answers.{is_backward}
use Rattle.history.specs.Histories as history
use Rattle.history.specs.Histories.{RuleTerms, Config, History, clock_of, on_flow, on_node, node_terms, flow_terms, carried_key, keys_like, Lawful}
use Rattle.history.specs.Tracks.{Tracks}
use Rattle.policing.specs.declared.cores.Core.{Core}
use Rattle.policing.specs.declared.cores.Flow.{Flow}
use Rattle.policing.specs.declared.cores.Offer.{Offer}
use Rattle.policing.specs.Flows.{HeldBy, used_by}
use Rattle.policing.specs.Moving.{RuleAt}

abbrev pub flow_of : Result Flow Refusal → Result history.Flow Refusal
flow_of (Ok w) = Ok (record { key = w.key; arrival = w.arrival })
flow_of (Err e) = Err e

abbrev pub offer_of : Offer → history.Offer
offer_of o = record { moment = o.load.moment.0; size = o.load.size.0; flow = flow_of o.flow }

abbrev pub RuledBy : {M : Type 0} → List (Rule M) → Result Flow Refusal → Type 0
RuledBy rs (Ok w) = first_for (map (λ r. r.selector) rs) w.key ≡ Some w.rule
RuledBy rs (Err e) = is_backward e ≡ false

abbrev pub Ruled : {M : Type 0} → Core M → Offer → Type 0
Ruled p o = RuledBy (vec_items p.rules) o.flow

abbrev pub rule_of : {M : Type 0} → (M → State) → Rule M → RuleTerms
rule_of f r = record { selector = r.selector; under = r.parent; terms = terms_of (f r.meter) }

abbrev pub config_of : {M : Type 0} → (M → State) → Core M → Config
config_of f p =
    record {
      parents = parents_of p.tree;
      nodes = map terms_of (map f (vec_items p.nodes));
      rules = map (rule_of f) (vec_items p.rules);
      conversations = length (rows_of p.flows.conversations);
      stations = length (rows_of p.flows.stations);
    }

abbrev pub Unused : State → Type 0
Unused m = m ≡ unused (terms_of m)

-- each rule lies under a node of the tree, or none, and starts from an unused meter
abbrev pub Rooted : {M : Type 0} → (M → State) → List ℕ → List (Rule M) → Type 0
Rooted {M} f ps rs = (i : ℕ) (x : Rule M) → RuleAt rs i x → (x.parent ≤ length ps) × Unused (f x.meter)

pub record Ready {M : Type 0} (f : M → State) (p : Core M) : Type 0 where
  pub beside : length (vec_items p.nodes) ≡ length (parents_of p.tree)
  pub earlier : Earlier (parents_of p.tree)
  pub shallow : Shallow (parents_of p.tree)
  pub roots : Rooted f (parents_of p.tree) (vec_items p.rules)

pub record Holds {M : Type 0} (f : M → State) (g : Config) (p : Core M) (h : History) : Type 0 where
  pub is : config_of f p ≡ g
  pub ready : Ready f p
  pub lawful : Lawful g h
  pub clock : p.clock.0 ≡ clock_of h
  -- each node's meter has the fills of the history
  pub nodes : (k : ℕ) (m : M) → 0 < k → k ≤ length (vec_items p.nodes) → m ≡ slice_index_or (vec_items p.nodes) (k - 1) m → Tracks (node_terms g k) (on_node g k) h (f m)
  -- so has the meter of each flow's row; and a flow has a row exactly if a carried record has its key
  pub flows : (k : Key) (m : M) → HeldBy p.flows k m → (carried_key h k ≡ true) × Tracks (flow_terms g k) (on_flow k) h (f m)
  pub rows : (k : Key) → carried_key h k ≡ true → (m : M) × HeldBy p.flows k m
  pub used : (k : Key) → used_by p.flows k ≡ keys_like k h
