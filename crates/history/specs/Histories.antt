-- The history of what was offered and answered, and what the next answer is by it and the configuration alone.
-- Flow, Offer: a record as it is judged: moment, size, and its flow with the arrival colour, or why it has none
-- RuleTerms, Config: what a policer was made with
-- alike, same_kind: keys that are equal, and keys of one kind; room: the rows for a key's kind
-- rule_for: the first rule for a key; key_of, on_flow: the key of an offer; nodes_of, on_node: the nodes of its path, lowest first
-- Entry, History: offers with their answers, the oldest first
-- clock_of: the moment of the last record that did not go back
-- charges_of: what a bucket counts of each carried record
-- all_fill, green_fill: the largest excess over windows to a moment; meter_fits, meter_over: does a packet fit by these?
-- carried_of, carried_key, keys_like: the keys of carried records, and how many there are of one kind
-- fits_for, over_for: the same for each meter of a path, 0 for the flow's own
-- answer_of: the answer of the checks; Lawful: each answer is that of the history before it
-- Assumes nothing.
use Rattle.std.specs.Prelude.{◌≡◌, ℕ, ◌+◌, ◌-◌, Bool, true, false, cond, not, ◌&&◌, List, [], ◌∷◌, ◌++◌, Some, None, Ok, Err, Option, Result, ◌==◌, nat_le, nat_lt, slice_index_or}
use Rattle.std.specs.Str.{bytes_eq}
use Rattle.meter.specs.declared.measures.Colour.{Colour}
use Rattle.meter.specs.declared.measures.Limit.{Limit}
use Rattle.meter.specs.declared.measures.PacketColour.{PacketColour}
use Rattle.meter.specs.declared.measures.Terms.{Terms}
use Rattle.meter.specs.Rules.{grains, cost, fits_by}
use Rattle.meter.specs.Windows.{Charge, charge_of, fill}
use Rattle.packet.specs.declared.kinds.Key.{Key}
use Rattle.packet.specs.declared.kinds.Key.TheVariants.{Conversation, Station}
use Rattle.policy.specs.declared.rules.Selector.{Selector}
use Rattle.policy.specs.declared.rules.Selector.TheVariants.{Mac}
use Rattle.policy.specs.Rules.{matches}
use Rattle.policy.specs.Trees.{ancestry}
use Rattle.history.specs.declared.answers.Refusal.{Refusal}
use Rattle.history.specs.declared.answers.Refusal.TheVariants.{Backward, TableFull}
use Rattle.history.specs.Answers.{Answer, is_carried, carried_green, went_back, judged}

pub record Flow : Type 0 where
  pub key : Key
  pub arrival : PacketColour

pub record Offer : Type 0 where
  pub moment : ℕ
  pub size : ℕ
  pub flow : Result Flow Refusal

pub record RuleTerms : Type 0 where
  pub selector : Selector
  pub under : ℕ
  pub terms : Terms

-- Node i + 1 stands at i in both lists.
pub record Config : Type 0 where
  pub parents : List ℕ
  pub nodes : List Terms
  pub rules : List RuleTerms
  pub conversations : ℕ
  pub stations : ℕ

abbrev pub alike : Key → Key → Bool
alike (Conversation a) (Conversation b) =
    (a.source.0 == b.source.0) && (a.destination.0 == b.destination.0 && a.protocol == b.protocol)
alike (Conversation a) (Station b) = false
alike (Station a) (Conversation b) = false
alike (Station a) (Station b) = bytes_eq a.source b.source

abbrev pub same_kind : Key → Key → Bool
same_kind (Conversation a) (Conversation b) = true
same_kind (Conversation a) (Station b) = false
same_kind (Station a) (Conversation b) = false
same_kind (Station a) (Station b) = true

abbrev pub room : Config → Key → ℕ
room g (Conversation k) = g.conversations
room g (Station k) = g.stations

abbrev pub no_terms : Terms
no_terms = record { base = grains 0; per_byte = grains 0; all = record { rate = 0; depth = grains 0 }; green = None; excess = None }

abbrev pub no_rule : RuleTerms
no_rule = record { selector = Mac None; under = 0; terms = no_terms }

abbrev pub rule_for : List RuleTerms → Key → RuleTerms
rule_for [] k = no_rule
rule_for (r ∷ rs) k = cond (matches r.selector k) r (rule_for rs k)

abbrev pub key_in : Result Flow Refusal → Option Key
key_in (Ok f) = Some f.key
key_in (Err e) = None

abbrev pub key_of : Offer → Option Key
key_of o = key_in o.flow

abbrev pub is_key : Key → Option Key → Bool
is_key k None = false
is_key k (Some j) = alike j k

-- the offer is of the flow with the key
abbrev pub on_flow : Key → Offer → Bool
on_flow k o = is_key k (key_of o)

abbrev pub nodes_under : Config → Option Key → List ℕ
nodes_under g None = []
nodes_under g (Some k) = ancestry g.parents (rule_for g.rules k).under

abbrev pub nodes_of : Config → Offer → List ℕ
nodes_of g o = nodes_under g (key_of o)

abbrev pub among : ℕ → List ℕ → Bool
among j [] = false
among j (k ∷ ks) = cond (j == k) true (among j ks)

-- node j lies on the path of the offer
abbrev pub on_node : Config → ℕ → Offer → Bool
on_node g j o = among j (nodes_of g o)

pub record Entry : Type 0 where
  pub offer : Offer
  pub answer : Answer

abbrev pub History : Type 0
History = List Entry

abbrev pub entry_of : Offer → Answer → Entry
entry_of o a = record { offer = o; answer = a }

abbrev pub clock_from : ℕ → History → ℕ
clock_from t [] = t
clock_from t (e ∷ h) = clock_from (cond (went_back e.answer) t e.offer.moment) h

abbrev pub clock_of : History → ℕ
clock_of h = clock_from 0 h

-- its cost, or nothing where the bucket leaves the record out
abbrev pub charges_of : (Entry → Bool) → Terms → History → List Charge
charges_of p w [] = []
charges_of p w (e ∷ h) =
    cond (is_carried e.answer) (charge_of e.offer.moment (cond (p e) (cost w e.offer.size) 0) ∷ charges_of p w h) (charges_of p w h)

-- `all` counts each carried record that the meter lies on the path of, `green` only those carried green
abbrev pub counts : (Offer → Bool) → Entry → Bool
counts on e = on e.offer

abbrev pub counts_green : (Offer → Bool) → Entry → Bool
counts_green on e = on e.offer && carried_green e.answer

abbrev pub all_fill : Terms → (Offer → Bool) → History → ℕ → ℕ
all_fill w on h t = fill w.all.rate (charges_of (counts on) w h) t

abbrev pub fill_if : Option Limit → Terms → (Offer → Bool) → History → ℕ → ℕ
fill_if None w on h t = 0
fill_if (Some l) w on h t = fill l.rate (charges_of (counts_green on) w h) t

abbrev pub green_fill : Terms → (Offer → Bool) → History → ℕ → ℕ
green_fill w on h t = fill_if w.green w on h t

abbrev pub meter_fits : Terms → (Offer → Bool) → History → Offer → Colour → Bool
meter_fits w on h o c = fits_by w (all_fill w on h o.moment) (green_fill w on h o.moment) (cost w o.size) c

-- the packet would lift `all` over its depth
abbrev pub meter_over : Terms → (Offer → Bool) → History → Offer → Bool
meter_over w on h o = not (nat_le (all_fill w on h o.moment + cost w o.size) w.all.depth.0)

abbrev pub carried_by : Answer → Option Key → Option Key
carried_by (Ok c) k = k
carried_by (Err e) k = None

-- the key of a carried record
abbrev pub carried_of : Entry → Option Key
carried_of e = carried_by e.answer (key_of e.offer)

abbrev pub carried_key : History → Key → Bool
carried_key [] k = false
carried_key (e ∷ h) k = cond (is_key k (carried_of e)) true (carried_key h k)

-- 1 for a key of the kind of k that no later record has
abbrev pub new_key : Key → History → Option Key → ℕ
new_key k h None = 0
new_key k h (Some j) = cond (same_kind k j) (cond (carried_key h j) 0 1) 0

-- how many keys of the kind of k carried records have
abbrev pub keys_like : Key → History → ℕ
keys_like k [] = 0
keys_like k (e ∷ h) = new_key k h (carried_of e) + keys_like k h

abbrev pub node_terms : Config → ℕ → Terms
node_terms g k = slice_index_or g.nodes (k - 1) no_terms

abbrev pub flow_terms : Config → Key → Terms
flow_terms g k = (rule_for g.rules k).terms

abbrev pub fits_for : Config → History → Offer → Key → Colour → ℕ → Bool
fits_for g h o key c k = cond (k == 0) (meter_fits (flow_terms g key) (on_flow key) h o c) (meter_fits (node_terms g k) (on_node g k) h o c)

abbrev pub over_for : Config → History → Offer → Key → ℕ → Bool
over_for g h o key k = cond (k == 0) (meter_over (flow_terms g key) (on_flow key) h o) (meter_over (node_terms g k) (on_node g k) h o)

-- past the check of its moment
abbrev pub answer_for : Config → History → Offer → Result Flow Refusal → Answer
answer_for g h o (Err e) = Err e
answer_for g h o (Ok f) =
    cond (not (carried_key h f.key) && keys_like f.key h == room g f.key) (Err TableFull)
    (judged (fits_for g h o f.key) (over_for g h o f.key) f.arrival (0 ∷ nodes_of g o))

abbrev pub answer_of : Config → History → Offer → Answer
answer_of g h o = cond (nat_lt o.moment (clock_of h)) (Err Backward) (answer_for g h o o.flow)

abbrev pub LawfulFrom : Config → History → History → Type 0
LawfulFrom g before [] = Unit {0}
LawfulFrom g before (e ∷ h) = (e.answer ≡ answer_of g before e.offer) × LawfulFrom g (before ++ (e ∷ [])) h

abbrev pub Lawful : Config → History → Type 0
Lawful g h = LawfulFrom g [] h
