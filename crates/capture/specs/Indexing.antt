-- The index of a capture.
-- index_entry_of: a record's place and numbers; ending_in: how what comes next ends the capture
-- Listed: these bytes have come in, and the records handed out of them are listed
-- PassedAll: everything that had come in whole was passed and is listed
-- Took: a block came in, and what had come in whole was passed
-- Indexes: the index of a whole capture
-- NotIndexed: why there is no index
-- Assumes nothing.
use Rattle.std.specs.Prelude.{◌≡◌, ℕ, ◌^◌, ◌≤◌, false, List, ◌++◌, map, length, Some, None, Ok, Err, vec_items, Option}
use Rattle.capture.specs.declared.layout.FeedError.{FeedError}
use Rattle.capture.specs.declared.layout.FeedError.TheVariants.{Closed, TooLong, NoMemory}
use Rattle.capture.specs.declared.layout.IndexEntry.{IndexEntry}
use Rattle.capture.specs.declared.layout.Index.{Index}
use Rattle.capture.specs.declared.indexing.Indexer.{Indexer}
use Rattle.capture.specs.Reading.{PlacedEntry, Coming, header, handed, wanting, ended, stopped, takes, Ending, Reads}
use Rattle.capture.specs.Feeding.{comes, Fed}

abbrev pub index_entry_of : PlacedEntry → IndexEntry
index_entry_of r =
    record {
      place = r.place;
      seconds = r.entry.seconds;
      microseconds = r.entry.microseconds;
      captured = length r.entry.frame;
      original = r.entry.original;
    }

abbrev pub ending_in : Coming → Option Ending
ending_in (header h) = None
ending_in (handed r) = None
ending_in (wanting n) = None
ending_in ended = Some (Ok tt)
ending_in (stopped f) = Some (Err f)

pub record Listed (x : Indexer) (input : List ℕ) : Type 0 where
  pub records : List PlacedEntry
  pub fed : Fed x.capture input records
  pub listed : vec_items x.entries ≡ map index_entry_of records

-- everything that had come in whole was passed
pub record PassedAll (before after : Indexer) : Type 0 where
  pub closed : after.capture.closed ≡ before.capture.closed
  pub done : takes (comes after.capture) ≡ 0
  pub listed : (input : List ℕ) → Listed before input → Listed after input

-- a block came in, and everything that has come in whole was passed
pub record Took (before after : Indexer) (block : List ℕ) : Type 0 where
  pub closed : after.capture.closed ≡ false
  pub listed : (input : List ℕ) → Listed before input → Listed after (input ++ block)

pub record Indexes (input : List ℕ) (x : Index) : Type 0 where
  pub records : List PlacedEntry
  pub reads : Reads input x.header records x.ending
  pub listed : vec_items x.entries ≡ map index_entry_of records

-- an index fails for want of memory, or where a place would be above 64 bits
abbrev pub NotIndexed : List ℕ → FeedError → Type 0
NotIndexed input Closed = ⊥
NotIndexed input TooLong = 2 ^ 64 ≤ length input
NotIndexed input NoMemory = Unit {0}
