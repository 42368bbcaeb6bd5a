-- What one packet changes, by the states of the meters.
-- Same: nothing changed
-- Charges: what a carried packet changes; Outcome: what an answer comes to; Came: the same, by the row that was found
-- RuleAt: the rule at a place; Moves, Settles: the answer by the states, and what it comes to
-- Assumes nothing.
use Rattle.std.specs.Prelude.{◌≡◌, ℕ, ◌<◌, ◌≤◌, List, ◌∷◌, map, length, Some, None, vec_items, Option, slice_index_or, Ok, Err}
use Rattle.meter.specs.declared.measures.Colour.{Colour}
use Rattle.meter.specs.declared.measures.PacketColour.{PacketColour}
use Rattle.meter.specs.declared.measures.State.{State}
use Rattle.packet.specs.declared.kinds.Key.{Key}
use Rattle.policy.specs.declared.rules.Rule.{Rule}
use Rattle.policy.specs.Policies.{parents_of}
use Rattle.policy.specs.Trees.{most_depth, upward}
use Rattle.meter.specs.declared.measures.Load.{Load}
use Rattle.paths.specs.Layers.{fits_at, over_at, left_by, charged_nodes}
use Rattle.history.specs.declared.answers.Refusal.TheVariants.{TableFull}
use Rattle.history.specs.Answers.{Answer, judged}
use Rattle.policing.specs.declared.cores.Core.{Core}
use Rattle.policing.specs.declared.cores.Flow.{Flow}
use Rattle.policing.specs.Flows.{HeldBy, MissingBy, RowBy, used_by, room_by, SameBoth, SameSlices, PutsBy}

pub record Same {M : Type 0} (p q : Core M) : Type 0 where
  pub flows : SameBoth p.flows q.flows
  pub nodes : vec_items q.nodes ≡ vec_items p.nodes
  pub parents : parents_of q.tree ≡ parents_of p.tree
  pub rules : vec_items q.rules ≡ vec_items p.rules
  pub clock : q.clock ≡ p.clock

-- the nodes of the path, and the meter of the key, which stood at m; so many rows more
pub record Charges {M : Type 0} (f : M → State) (p q : Core M) (o : Load) (key : Key) (path : List ℕ) (m : State) (more : ℕ) (c : Colour) : Type 0 where
  pub nodes : map f (vec_items q.nodes) ≡ charged_nodes o c (map f (vec_items p.nodes)) path
  pub made : (x : M) × PutsBy p.flows q.flows key more x × (f x ≡ left_by o c m)
  pub same : SameSlices p.flows q.flows
  pub parents : parents_of q.tree ≡ parents_of p.tree
  pub rules : vec_items q.rules ≡ vec_items p.rules
  pub clock : q.clock ≡ p.clock

abbrev pub Outcome : {M : Type 0} → (M → State) → Core M → Core M → Load → Key → List ℕ → State → ℕ → Answer → Type 0
Outcome f p q o key path m more (Ok c) = Charges f p q o key path m more c
Outcome f p q o key path m more (Err e) = Same p q

abbrev pub Came : {M : Type 0} → (M → State) → Core M → Core M → Load → Key → List ℕ → Option ℕ → State → Answer → Type 0
Came f p q o key path (Some i) m r = RowBy p.flows i key → Outcome f p q o key path m 0 r
Came f p q o key path None m r = MissingBy p.flows key → used_by p.flows key < room_by p.flows key → Outcome f p q o key path m 1 r

abbrev pub RuleAt : {M : Type 0} → List (Rule M) → ℕ → Rule M → Type 0
RuleAt rs i x = (i < length rs) × (x ≡ slice_index_or rs i x)

abbrev pub Moves : {M : Type 0} → (M → State) → Core M → Core M → Load → Key → PacketColour → List ℕ → State → ℕ → Answer → Type 0
Moves f p q o key a path m more r =
    (r ≡ judged (fits_at o m (map f (vec_items p.nodes))) (over_at o m (map f (vec_items p.nodes))) a path) × Outcome f p q o key path m more r

-- the flow's own meter, then the rule's node, its parent, and so on
abbrev pub path_up : {M : Type 0} → Core M → Rule M → List ℕ
path_up p x = 0 ∷ upward most_depth (parents_of p.tree) x.parent

-- by the meter of the flow's row; without one, by the rule's; and without a free row not at all
pub record Settles {M : Type 0} (f : M → State) (p q : Core M) (o : Load) (w : Flow) (x : Rule M) (r : Answer) : Type 0 where
  pub known : (m : M) → HeldBy p.flows w.key m → Moves f p q o w.key w.arrival (path_up p x) (f m) 0 r
  pub unknown : MissingBy p.flows w.key → used_by p.flows w.key < room_by p.flows w.key → Moves f p q o w.key w.arrival (path_up p x) (f x.meter) 1 r
  pub full : MissingBy p.flows w.key → room_by p.flows w.key ≤ used_by p.flows w.key → (r ≡ Err TableFull) × Same p q
