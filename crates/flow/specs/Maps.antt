-- A table as a map from keys to meters, with a bounded number of keys.
-- alike: whether two keys have the same bytes
-- Entry: a key and its meter; lookup: the meter of a key; put: a key's meter put
-- Mapped: a table holds for each key what the entries have, in as many rows as there are entries
-- fits: whether there is room for a key; placed: what placing it answers
-- reply_to, after_call: what a call on the map answers, and leaves
-- replies, after_all: the same for a list of calls
-- Served: what a run over a list of calls answers and leaves
-- Assumes nothing.
use Rattle.std.specs.Prelude.{◌≡◌, ℕ, Bool, cond, ◌||◌, List, [], ◌∷◌, length, is_some, Some, None, Ok, Err, Option, Result, nat_lt}
use Rattle.std.specs.Str.{bytes_eq}
use Rattle.flow.specs.declared.key.Key as keys
use Rattle.flow.specs.declared.row.Call.{Call}
use Rattle.flow.specs.declared.row.Call.TheVariants.{Look, Place}
use Rattle.flow.specs.declared.row.Reply.{Reply}
use Rattle.flow.specs.declared.row.Reply.TheVariants.{Looked, Placed}
use Rattle.flow.specs.declared.row.Unplaced.{Unplaced}
use Rattle.flow.specs.declared.row.Unplaced.TheVariants.{Full}
use Rattle.flow.specs.declared.table.FlowTable.{FlowTable}
use Rattle.flow.specs.Tables.{rows_of, Held}

pub record Entry (K M : Type 0) : Type 0 where
  pub key : K
  pub meter : M

abbrev pub entry : {K M : Type 0} → K → M → Entry K M
entry k m = record { key = k; meter = m }

-- equal keys are those with equal bytes
abbrev pub alike : {K : Type 0} → (K → List ℕ) → K → K → Bool
alike bytes j k = bytes_eq (bytes j) (bytes k)

-- a key gets its meter, or finds every row in use
abbrev pub placed : Bool → Result (Unit {0}) Unplaced
placed room = cond room (Ok tt) (Err Full)

-- over every kind of key, by its bytes
module _ {K M : Type 0} (bytes : K → List ℕ) where
  abbrev pub lookup : List (Entry K M) → K → Option M
  lookup [] k = None
  lookup (e ∷ es) k = cond (alike bytes e.key k) (Some e.meter) (lookup es k)

  abbrev pub put : List (Entry K M) → K → M → List (Entry K M)
  put [] k m = entry k m ∷ []
  put (e ∷ es) k m = cond (alike bytes e.key k) (entry e.key m ∷ es) (e ∷ put es k m)

  -- a key that is held has room, and any key while there are fewer than there are rows
  abbrev pub fits : ℕ → List (Entry K M) → K → Bool
  fits rows es k = is_some (lookup es k) || nat_lt (length es) rows

  abbrev pub reply_to : ℕ → List (Entry K M) → Call K M → Reply M
  reply_to rows es (Look k) = Looked (lookup es k)
  reply_to rows es (Place k m) = Placed (placed (fits rows es k))

  abbrev pub after_call : ℕ → List (Entry K M) → Call K M → List (Entry K M)
  after_call rows es (Look k) = es
  after_call rows es (Place k m) = cond (fits rows es k) (put es k m) es

  abbrev pub replies : ℕ → List (Entry K M) → List (Call K M) → List (Reply M)
  replies rows es [] = []
  replies rows es (c ∷ cs) = reply_to rows es c ∷ replies rows (after_call rows es c) cs

  abbrev pub after_all : ℕ → List (Entry K M) → List (Call K M) → List (Entry K M)
  after_all rows es [] = es
  after_all rows es (c ∷ cs) = after_all rows (after_call rows es c) cs

-- over every kind of key and meter
module _ {K M : Type 0} {kind : keys.Ghosts K} where
  pub record Mapped (t : FlowTable K M kind) (es : List (Entry K M)) : Type 0 where
    pub count : t.used ≡ length es
    pub to : (k : K) (m : M) → Held t k m → lookup kind.bytes es k ≡ Some m
    pub from : (k : K) (m : M) → lookup kind.bytes es k ≡ Some m → Held t k m

  -- whatever map the table was, the replies are the map's, and the table is the map that the calls leave
  abbrev pub Served : FlowTable K M kind → FlowTable K M kind → List (Call K M) → List (Reply M) → Type 0
  Served t u cs rs =
      (es : List (Entry K M)) → Mapped t es →
      (rs ≡ replies kind.bytes (length (rows_of t)) es cs) × Mapped u (after_all kind.bytes (length (rows_of t)) es cs)
