-- From what the calls did to what a packet changes. Assumes nothing.
use Rattle.std.proofs.Common.{◌≡◌, ℕ, ◌<◌, List, ◌∷◌, map, length, get_or, Some, None, vec_items, Option, sym, ap, ◌∙◌, subst, Ok}
use borrow.Rule.Slice.AtParam.{at_default}
use Rattle.meter.specs.declared.measures.Colour.{Colour}
use Rattle.meter.specs.declared.measures.PacketColour.{PacketColour}
use Rattle.meter.specs.declared.measures.State.{State}
use Rattle.packet.specs.declared.kinds.Key.{Key}
use Rattle.policy.specs.declared.rules.Rule.{Rule}
use Rattle.policy.specs.Policies.{parents_of}
use Rattle.policy.specs.Trees.{most_depth, upward}
use Rattle.meter.specs.declared.measures.Load.{Load}
use Rattle.paths.specs.Layers.{left_by, charged_nodes}
use Rattle.history.specs.Answers.{Answer}
use Rattle.policing.specs.declared.cores.Core.{Core}
use Rattle.policing.specs.Flows.{HeldBy, MissingBy, RowBy, SameSlices, KeepsBy, PutsBy}
use Rattle.policing.specs.Moving.{Charges, Outcome, Came, RuleAt, Moves, path_up}

pub rule_same : {M : Type 0} (rs : List (Rule M)) (i : ℕ) (x y : Rule M) → i < length rs → x ≡ get_or rs i x → RuleAt rs i y → x ≡ y
rule_same rs i x y lt e a = at_default rs i x y e a.0 ∙ sym a.1

module _ {M : Type 0} (f : M → State) (p q : Core M) (o : Load) (key : Key) (path : List ℕ) (m : State) (new : M) (c : Colour)
    (nodes : map f (vec_items q.nodes) ≡ charged_nodes o c (map f (vec_items p.nodes)) path) (left : f new ≡ left_by o c m) (same : SameSlices p.flows q.flows)
    (parents : parents_of q.tree ≡ parents_of p.tree) (rules : vec_items q.rules ≡ vec_items p.rules) (clock : q.clock ≡ p.clock) where
  charges : (more : ℕ) → PutsBy p.flows q.flows key more new → Charges f p q o key path m more c
  charges more k = record { nodes = nodes; made = (new, k, left); same = same; parents = parents; rules = rules; clock = clock }

  pub came_carried : (row : Option ℕ) (r : Answer) → r ≡ Ok c → KeepsBy p.flows q.flows key row new → Came f p q o key path row m r
  came_carried (Some i) r e keeps = λ at. subst (Outcome f p q o key path m 0) (sym e) (charges 0 (keeps at))
  came_carried None r e keeps = λ missing free. subst (Outcome f p q o key path m 1) (sym e) (charges 1 (keeps missing free))

-- along the path of the rule that stands there, by the meter that is held
pub moves_to : {M : Type 0} (f : M → State) (p q : Core M) (o : Load) (key : Key) (a : PacketColour) (path other : List ℕ) (m n : M) (more : ℕ) (r : Answer) → path ≡ other → m ≡ n → Moves f p q o key a path (f m) more r → Moves f p q o key a other (f n) more r
moves_to f p q o key a path other m n more r e d moved = subst (λ l. Moves f p q o key a l (f n) more r) e (subst (λ v. Moves f p q o key a path (f v) more r) d moved)

pub path_to : {M : Type 0} (p : Core M) (x y : Rule M) (l : List ℕ) → l ≡ 0 ∷ upward most_depth (parents_of p.tree) x.parent → x ≡ y → l ≡ path_up p y
path_to p x y l e d = e ∙ ap (λ (v : Rule _). 0 ∷ upward most_depth (parents_of p.tree) v.parent) d

pub held_missing : {M : Type 0} (p : Core M) (key : Key) (m : M) → MissingBy p.flows key → HeldBy p.flows key m → ⊥
held_missing p (Key.Conversation k) m missing (j, y, less, there, its, meter) = missing j less (y, there, its)
held_missing p (Key.Station k) m missing (j, y, less, there, its, meter) = missing j less (y, there, its)

pub row_missing : {M : Type 0} (p : Core M) (key : Key) (i : ℕ) → MissingBy p.flows key → RowBy p.flows i key → ⊥
row_missing p (Key.Conversation k) i missing at = missing i at.0 at.1
row_missing p (Key.Station k) i missing at = missing i at.0 at.1
