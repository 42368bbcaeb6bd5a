-- A capture that is read in blocks.
-- unread_of: the bytes that have come in and are not passed; comes: what comes next
-- Continues: what comes next goes on from what was handed out
-- Settled: at the end or at a fault, what was handed out is all that the capture has
-- Fed: these bytes have come in so far, and these records were handed out of them
-- Fresh: nothing has come in; Moved: the same but for what was passed; Grown: the same but for a block more
-- NotTaken: why a block is not taken in
-- Assumes nothing.
use Rattle.std.specs.Prelude.{◌≡◌, ℕ, ◌+◌, ◌^◌, ◌<◌, ◌≤◌, true, false, List, [], ◌++◌, length, drop, None, vec_items}
use Rattle.capture.specs.declared.layout.FeedError.{FeedError}
use Rattle.capture.specs.declared.layout.FeedError.TheVariants.{Closed, TooLong, NoMemory}
use Rattle.capture.specs.declared.blocks.Blocks.{Blocks}
use Rattle.capture.specs.Reading.{PlacedEntry, Coming, next_of, takes, header_after, records_in, HandedOut, GoesOn, Settles}

abbrev pub unread_of : Blocks → List ℕ
unread_of b = drop b.behind (vec_items b.held)

abbrev pub comes : Blocks → Coming
comes b = next_of b.header b.closed b.place (unread_of b)

abbrev pub Continues : Blocks → Coming → Type 0
Continues b x = GoesOn b.header b.place (unread_of b) x

abbrev pub Settled : Blocks → Coming → Type 0
Settled b x = Settles b.header b.closed b.place (unread_of b) x

abbrev pub Fed : Blocks → List ℕ → List PlacedEntry → Type 0
Fed b input rs = HandedOut b.header rs b.place (unread_of b) input

pub record Fresh (b : Blocks) : Type 0 where
  pub header : b.header ≡ None
  pub closed : b.closed ≡ false
  pub place : b.place ≡ 0
  pub unread : unread_of b ≡ []
  pub fed : Fed b [] []

pub record Moved (before after : Blocks) : Type 0 where
  pub header : after.header ≡ header_after before.header (comes before)
  pub closed : after.closed ≡ before.closed
  pub place : after.place ≡ before.place + takes (comes before)
  pub unread : unread_of after ≡ drop (takes (comes before)) (unread_of before)
  pub fed : (input : List ℕ) (rs : List PlacedEntry) → Fed before input rs → Fed after input (rs ++ records_in (comes before))

pub record Shut (before after : Blocks) : Type 0 where
  pub header : after.header ≡ before.header
  pub closed : after.closed ≡ true
  pub place : after.place ≡ before.place
  pub unread : unread_of after ≡ unread_of before
  pub fed : (input : List ℕ) (rs : List PlacedEntry) → Fed before input rs → Fed after input rs

pub record Grown (before after : Blocks) (block : List ℕ) : Type 0 where
  pub before_open : before.closed ≡ false
  pub short : before.place + (length (unread_of before) + length block) < 2 ^ 64
  pub header : after.header ≡ before.header
  pub closed : after.closed ≡ false
  pub place : after.place ≡ before.place
  pub unread : unread_of after ≡ unread_of before ++ block
  pub fed : (input : List ℕ) (rs : List PlacedEntry) → Fed before input rs → Fed after (input ++ block) rs

-- want of memory is the only reason that the rules leave free
abbrev pub NotTaken : Blocks → List ℕ → FeedError → Type 0
NotTaken b block Closed = b.closed ≡ true
NotTaken b block TooLong = (b.closed ≡ false) × (2 ^ 64 ≤ b.place + (length (unread_of b) + length block))
NotTaken b block NoMemory = (b.closed ≡ false) × (b.place + (length (unread_of b) + length block) < 2 ^ 64)
