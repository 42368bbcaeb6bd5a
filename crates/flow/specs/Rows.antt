-- Rows and their chains: what makes them sound, and what they hold for a key.
-- Among, Distinct: numbers in a list; At, Keyed: what a row is, and has; links_of: the rows behind the rows
-- Chain: rows in use that follow one another
-- Sound: each chain links distinct rows in use, every row in use stands in the chain of its key, no two have one key
-- Holds, Absent: the meter held for a key, or none; Found: what a search answers
-- Put: one key's meter is put, and nothing else changes
-- Where a row stands and the order of a chain are free: nothing below names them to a caller.
-- Assumes nothing.
use Rattle.std.specs.Prelude.{◌≡◌, ℕ, ◌<◌, ◌≤◌, ◌⊎◌, List, [], ◌∷◌, map, length, Some, None, Option, ◌≢◌, slice_index, slice_index_or}
use Rattle.flow.specs.declared.row.Row.{Row}
use Rattle.flow.specs.Keys.{chain_count}

abbrev pub most_rows : ℕ
most_rows = 4096

abbrev pub Among : ℕ → List ℕ → Type 0
Among i [] = ⊥
Among i (j ∷ js) = (i ≡ j) ⊎ Among i js

abbrev pub Distinct : List ℕ → Type 0
Distinct [] = Unit {0}
Distinct (j ∷ js) = (Among j js → ⊥) × Distinct js

-- row i is r
abbrev pub At : {K M : Type 0} → List (Row K M) → ℕ → Row K M → Type 0
At rows i r = (i < length rows) × (r ≡ slice_index_or rows i r)

-- row i has the key k
abbrev pub Keyed : {K M : Type 0} → List (Row K M) → ℕ → K → Type 0
Keyed {K} {M} rows i k = (r : Row K M) × At rows i r × (r.key ≡ k)

abbrev pub links_of : {K M : Type 0} → List (Row K M) → List ℕ
links_of rows = map (λ r. r.next) rows

-- the numbers is, each of a row in use, follow one another from `at` on; a number past the rows ends them
abbrev pub Chain : List ℕ → ℕ → ℕ → List ℕ → Type 0
Chain links used at [] = length links ≤ at
Chain links used at (i ∷ is) = (at ≡ i) × (i < used) × Chain links used (slice_index links i) is

pub record Sound {K M : Type 0} (chain : K → ℕ) (rows : List (Row K M)) (heads : List ℕ) (used : ℕ) : Type 0 where
  pub room : used ≤ length rows
  pub few : length rows ≤ most_rows
  pub all : length heads ≡ chain_count
  -- the rows of each chain, in its order
  pub chains : ℕ → List ℕ
  pub linked : (h : ℕ) → h < chain_count → Chain (links_of rows) used (slice_index heads h) (chains h)
  pub apart : (h : ℕ) → h < chain_count → Distinct (chains h)
  -- a row in use stands in the chain of its key, and in no other
  pub stands : (i : ℕ) (k : K) → i < used → Keyed rows i k → Among i (chains (chain k))
  pub own : (h i : ℕ) (k : K) → h < chain_count → Among i (chains h) → Keyed rows i k → chain k ≡ h
  pub once : (i j : ℕ) (k : K) → i < used → j < used → Keyed rows i k → Keyed rows j k → i ≡ j

-- as Sound, but row i stands in no chain, and its key counts for nothing
pub record Loose {K M : Type 0} (chain : K → ℕ) (rows : List (Row K M)) (heads : List ℕ) (used : ℕ) (i : ℕ) : Type 0 where
  pub room : used ≤ length rows
  pub few : length rows ≤ most_rows
  pub all : length heads ≡ chain_count
  pub chains : ℕ → List ℕ
  pub linked : (h : ℕ) → h < chain_count → Chain (links_of rows) used (slice_index heads h) (chains h)
  pub apart : (h : ℕ) → h < chain_count → Distinct (chains h)
  pub out : (h : ℕ) → h < chain_count → Among i (chains h) → ⊥
  pub stands : (j : ℕ) (k : K) → j < used → (j ≢ i) → Keyed rows j k → Among j (chains (chain k))
  pub own : (h j : ℕ) (k : K) → h < chain_count → Among j (chains h) → Keyed rows j k → chain k ≡ h
  pub once : (j m : ℕ) (k : K) → j < used → m < used → (j ≢ i) → (m ≢ i) → Keyed rows j k → Keyed rows m k → j ≡ m

-- m is held for the key k, in whichever row
abbrev pub Holds : {K M : Type 0} → List (Row K M) → ℕ → K → M → Type 0
Holds {K} {M} rows used k m = (i : ℕ) × (r : Row K M) × (i < used) × At rows i r × (r.key ≡ k) × (r.meter ≡ m)

-- no row in use has the key
abbrev pub Absent : {K M : Type 0} → List (Row K M) → ℕ → K → Type 0
Absent rows used k = (i : ℕ) → i < used → Keyed rows i k → ⊥

abbrev pub Found : {K M : Type 0} → List (Row K M) → ℕ → K → Option ℕ → Type 0
Found rows used k (Some i) = (i < used) × Keyed rows i k
Found rows used k None = Absent rows used k

-- after, m is held for k, and for every other key what was held
pub record Put {K M : Type 0} (rows : List (Row K M)) (used : ℕ) (after : List (Row K M)) (later : ℕ) (k : K) (m : M) : Type 0 where
  pub held : Holds after later k m
  pub only : (n : M) → Holds after later k n → n ≡ m
  pub kept : (j : K) (n : M) → (j ≢ k) → Holds rows used j n → Holds after later j n
  pub nomore : (j : K) (n : M) → (j ≢ k) → Holds after later j n → Holds rows used j n
