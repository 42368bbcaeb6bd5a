-- A table as a whole: what it holds for each key, and what each call answers and leaves.
-- rows_of: its rows; that they and their chains are sound is part of what a table is
-- Held, Missing, RowOf: the meter held for a key, none, and the row in use for a key; Finds: what a search answers
-- Same: nothing changed; SameSlice: the rows are still those that were lent, in number too
-- Puts: one key's meter is put, and nothing else changes
-- number_of: the number of a refusal; BadCount: a number of rows that no table is made over
-- Fresh: a table that holds nothing; Places: what adding a key comes to
-- Read, Replaces: what reading and replacing the meter of a row come to
-- Assumes nothing.
use Rattle.std.specs.Prelude.{◌≡◌, ℕ, ◌+◌, ◌<◌, ◌≤◌, ◌⊎◌, List, length, Some, None, Ok, Err, Option, Result}
use Rattle.flow.specs.declared.key.Key as keys
use Rattle.flow.specs.declared.row.Refusal.{Refusal}
use Rattle.flow.specs.declared.row.Refusal.TheVariants.{BadRowCount}
use Rattle.flow.specs.declared.row.Row.{Row}
use Rattle.flow.specs.declared.row.Unplaced.{Unplaced}
use Rattle.flow.specs.declared.row.Unplaced.TheVariants.{Full}
use Rattle.flow.specs.declared.table.FlowTable.{FlowTable}
use Rattle.flow.specs.Rows.{most_rows, Found, Absent, Holds, Put, At, Keyed}

abbrev pub number_of : Refusal → ℕ
number_of BadRowCount = 8

abbrev pub BadCount : ℕ → Type 0
BadCount n = (n ≡ 0) ⊎ (most_rows < n)

-- over every kind of key and meter
module _ {K M : Type 0} {kind : keys.Ghosts K} where
  abbrev pub rows_of : FlowTable K M kind → List (Row K M)
  rows_of t = t.rows.now

  abbrev pub Held : FlowTable K M kind → K → M → Type 0
  Held t k m = Holds (rows_of t) t.used k m

  abbrev pub Missing : FlowTable K M kind → K → Type 0
  Missing t k = Absent (rows_of t) t.used k

  abbrev pub RowOf : FlowTable K M kind → ℕ → K → Type 0
  RowOf t i k = (i < t.used) × Keyed (rows_of t) i k

  abbrev pub Finds : FlowTable K M kind → K → Option ℕ → Type 0
  Finds t k r = Found (rows_of t) t.used k r

  abbrev pub Same : FlowTable K M kind → FlowTable K M kind → Type 0
  Same t u = (rows_of u ≡ rows_of t) × (u.heads ≡ t.heads) × (u.used ≡ t.used)

  abbrev pub SameSlice : FlowTable K M kind → FlowTable K M kind → Type 0
  SameSlice t u = (u.rows.ghost_name ≡ t.rows.ghost_name) × (length (rows_of u) ≡ length (rows_of t))

  -- after, the table holds m for k, and for every other key what it held
  abbrev pub Puts : FlowTable K M kind → FlowTable K M kind → K → M → Type 0
  Puts t u k m = Put (rows_of t) t.used (rows_of u) u.used k m

  -- there are rows, and no more than the most; they are those that were lent, and none is in use
  abbrev pub Fresh : List (Row K M) → FlowTable K M kind → Type 0
  Fresh rows t = (0 < length rows) × (length rows ≤ most_rows) × (rows_of t ≡ rows) × (t.used ≡ 0)

  -- A key without a row gets one, whichever; the number of rows in use grows by one. A key that has one, and any key
  -- where every row is in use, gets none, and nothing changes.
  abbrev pub Places : FlowTable K M kind → FlowTable K M kind → K → M → Result ℕ Unplaced → Type 0
  Places t u k m (Ok i) = Missing t k × (t.used < length (rows_of t)) × (u.used ≡ t.used + 1) × Puts t u k m × RowOf u i k
  Places t u k m (Err Unplaced.Held) = ((i : ℕ) × RowOf t i k) × Same t u
  Places t u k m (Err Full) = Missing t k × (t.used ≡ length (rows_of t)) × Same t u

  -- the meter of a row in use; no other row has one
  abbrev pub Read : FlowTable K M kind → ℕ → Option M → Type 0
  Read t i (Some m) = (i < t.used) × ((r : Row K M) → At (rows_of t) i r → m ≡ r.meter)
  Read t i None = t.used ≤ i

  -- the meter of a row in use is replaced, for its key alone; any other row is left as it was
  abbrev pub Replaces : FlowTable K M kind → FlowTable K M kind → ℕ → M → Option (Unit {0}) → Type 0
  Replaces t u i m (Some _) =
      (i < t.used) × (u.used ≡ t.used) × ((j : ℕ) (k : K) → RowOf t j k → RowOf u j k) × ((k : K) → RowOf t i k → Puts t u k m)
  Replaces t u i m None = (t.used ≤ i) × Same t u
