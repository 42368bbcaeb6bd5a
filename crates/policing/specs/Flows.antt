-- The flows of both kinds, by their tables.
-- Looked: what a table has for a key; Keeps: a meter kept for a key, and nothing else changed
-- HeldBy, MissingBy, RowBy, used_by, room_by: the table of a key's kind, by what it holds
-- SameBoth: nothing changed; SameSlices: the rows of both are those that were lent, and no table grows; PutsBy: one key's meter is put
-- LookedBy, KeepsBy: looking and keeping in the table of a key's kind
-- Assumes nothing.
use Rattle.std.specs.Prelude.{◌≡◌, ℕ, ◌+◌, ◌<◌, ◌≤◌, length, Some, None, Ok, Err, Option, Result}
use Rattle.packet.specs.declared.kinds.Key.{Key}
use Rattle.packet.specs.declared.kinds.Key.TheVariants.{Conversation, Station}
use Rattle.flow.specs.declared.key.Key as keys
use Rattle.flow.specs.declared.table.FlowTable.{FlowTable}
use Rattle.flow.specs.Tables.{rows_of, Held, Missing, RowOf, Puts, Same, SameSlice}
use Rattle.history.specs.declared.answers.Refusal.{Refusal}
use Rattle.history.specs.declared.answers.Refusal.TheVariants.{TableFull}
use Rattle.policing.specs.declared.flows.FlowRow.{FlowRow}
use Rattle.policing.specs.declared.flows.Flows.{Flows}

-- over every kind of key and meter
module _ {K M : Type 0} {kind : keys.Ghosts K} where
  -- the row that has the key, and its meter; none where a row is free; and a full table otherwise
  abbrev pub Looked : FlowTable K M kind → K → Result (Option (FlowRow M)) Refusal → Type 0
  Looked t k (Ok (Some h)) = RowOf t h.row k × Held t k h.meter × ((n : M) → Held t k n → n ≡ h.meter)
  Looked t k (Ok None) = Missing t k × (t.used < length (rows_of t))
  Looked t k (Err e) = (e ≡ TableFull) × Missing t k × (length (rows_of t) ≤ t.used)

  -- in the key's own row, or in a new one where one is free
  abbrev pub Keeps : FlowTable K M kind → FlowTable K M kind → K → Option ℕ → M → Type 0
  Keeps t u k (Some i) m = RowOf t i k → (u.used ≡ t.used + 0) × Puts t u k m
  Keeps t u k None m = Missing t k → t.used < length (rows_of t) → (u.used ≡ t.used + 1) × Puts t u k m

module _ {M : Type 0} where
  abbrev pub HeldBy : Flows M → Key → M → Type 0
  HeldBy f (Conversation k) m = Held f.conversations k m
  HeldBy f (Station k) m = Held f.stations k m

  abbrev pub MissingBy : Flows M → Key → Type 0
  MissingBy f (Conversation k) = Missing f.conversations k
  MissingBy f (Station k) = Missing f.stations k

  abbrev pub RowBy : Flows M → ℕ → Key → Type 0
  RowBy f i (Conversation k) = RowOf f.conversations i k
  RowBy f i (Station k) = RowOf f.stations i k

  abbrev pub used_by : Flows M → Key → ℕ
  used_by f (Conversation k) = f.conversations.used
  used_by f (Station k) = f.stations.used

  abbrev pub room_by : Flows M → Key → ℕ
  room_by f (Conversation k) = length (rows_of f.conversations)
  room_by f (Station k) = length (rows_of f.stations)

  abbrev pub SameBoth : Flows M → Flows M → Type 0
  SameBoth f g = Same f.conversations g.conversations × Same f.stations g.stations

  abbrev pub SameSlices : Flows M → Flows M → Type 0
  SameSlices f g = SameSlice f.conversations g.conversations × SameSlice f.stations g.stations

  -- so many rows more for the key's kind, and its meter put; the other kind is as it was
  abbrev pub PutsBy : Flows M → Flows M → Key → ℕ → M → Type 0
  PutsBy f g (Conversation k) more m =
      Puts f.conversations g.conversations k m × (g.conversations.used ≡ f.conversations.used + more) × Same f.stations g.stations
  PutsBy f g (Station k) more m =
      Puts f.stations g.stations k m × (g.stations.used ≡ f.stations.used + more) × Same f.conversations g.conversations

  abbrev pub LookedBy : Flows M → Key → Result (Option (FlowRow M)) Refusal → Type 0
  LookedBy f k (Ok (Some h)) = RowBy f h.row k × HeldBy f k h.meter × ((n : M) → HeldBy f k n → n ≡ h.meter)
  LookedBy f k (Ok None) = MissingBy f k × (used_by f k < room_by f k)
  LookedBy f k (Err e) = (e ≡ TableFull) × MissingBy f k × (room_by f k ≤ used_by f k)

  abbrev pub KeepsBy : Flows M → Flows M → Key → Option ℕ → M → Type 0
  KeepsBy f g k (Some i) m = RowBy f i k → PutsBy f g k 0 m
  KeepsBy f g k None m = MissingBy f k → used_by f k < room_by f k → PutsBy f g k 1 m
