-- What is handed out of the blocks of a capture is listed.
use Rattle.std.proofs.Common.{◌≡◌, ℕ, ◌+◌, ◌<◌, Bool, true, false, List, [], ◌++◌, length, get_or, take, drop, Some, Ok, Err, vec_items, Option, unwrap_or, sym, ap, ◌∙◌, subst, arith, Bor}
use Rattle.std.proofs.lemmas.Grind.{flat_map-append}
use Rattle.std.proofs.lemmas.List.{flat_map_more, length-append, take_more, take-append-drop}
use Rattle.std.specs.List.{flat_map}
use Rattle.capture.specs.declared.layout.FeedError.{FeedError}
use Rattle.capture.specs.declared.layout.FeedError.TheVariants.{Closed, TooLong, NoMemory}
use Rattle.capture.specs.declared.layout.FileHeader.{FileHeader}
use Rattle.capture.specs.declared.indexing.Indexer.{Indexer}
use Rattle.capture.specs.Reading.{PlacedEntry, Coming, header, handed, wanting, ended, stopped, takes, HandedOut, Ending, Reads, Settles}
use Rattle.capture.specs.Feeding.{unread_of, comes, Settled, Shut, NotTaken}
use Rattle.capture.specs.Indexing.{ending_in, Listed, Took, Indexes, NotIndexed}
use Rattle.capture.proofs.Going.{handed_long}

-- no more is listed by the input's end
pub listed_shut : (before after : Indexer) → Shut before.capture after.capture → after.entries ≡ before.entries → (input : List ℕ) → Listed before input → Listed after input
listed_shut before after s same input k =
    record { records = k.records; fed = s.fed input k.records k.fed; listed = ap (λ v. vec_items v) same ∙ k.listed }

-- an ending before the input is closed is a fault, and that of the whole
pub ends_open : (h : Option FileHeader) (closed : Bool) (p : ℕ) (u input more : List ℕ) (rs : List PlacedEntry) (e : Ending) (x : Coming) →
    closed ≡ false → HandedOut h rs p u input → Settles h closed p u x → ending_in x ≡ Some e → Reads (input ++ more) h rs e
ends_open h closed p u input more rs e (header k) c k' s q = cc
ends_open h closed p u input more rs e (handed r) c k s q = cc
ends_open h closed p u input more rs e (wanting n) c k s q = cc
ends_open h closed p u input more rs e ended c k s q =
    let t : closed ≡ true = (s input rs k).0 in cc
ends_open h true p u input more rs e (stopped f) c k s q = cc
ends_open h false p u input more rs e (stopped f) c k s q =
    let same : ◌≡◌ {A = Ending} (Err f) e = cc in subst (λ x. Reads (input ++ more) h rs x) same (s input more rs k)

-- once the input is closed and everything is passed, the capture ends
pub ends_closed : (h : Option FileHeader) (closed : Bool) (p : ℕ) (u input : List ℕ) (rs : List PlacedEntry) (x : Coming) →
    closed ≡ true → takes x ≡ 0 → HandedOut h rs p u input → Settles h closed p u x → Reads input h rs (unwrap_or (ending_in x) (Ok tt))
ends_closed h closed p u input rs (header k) c t k' s = absurd (omega arith)
ends_closed h closed p u input rs (handed r) c t k s = absurd (omega arith)
ends_closed h closed p u input rs (wanting n) c t k s =
    let f : closed ≡ false = s.1 in cc
ends_closed h closed p u input rs ended c t k s = (s input rs k).1
ends_closed h true p u input rs (stopped f) c t k s = s input rs k
ends_closed h false p u input rs (stopped f) c t k s = cc

pub joined_parts : {X : Type 0} (f : X → List ℕ) (xs : List X) (n : ℕ) → flat_map f (take n xs) ++ flat_map f (drop n xs) ≡ flat_map f xs
joined_parts f xs n = sym (flat_map-append f (take n xs) (drop n xs)) ∙ ap (λ l. flat_map f l) (take-append-drop n xs)

joined_more : {X : Type 0} (f : X → List ℕ) (xs : List X) (i : ℕ) (d : X) → i < length xs → flat_map f (take (i + 1) xs) ≡ flat_map f (take i xs) ++ f (get_or xs i d)
joined_more f xs i d h = ap (λ l. flat_map f l) (take_more xs i d h) ∙ sym (flat_map_more f [] (take i xs) (get_or xs i d))

-- one block more
pub listed_more : (before after : Indexer) (blocks : List (Bor (List ℕ))) (i : ℕ) (d : Bor (List ℕ)) → i < length blocks →
    Took before after (get_or blocks i d).now → Listed before (flat_map (λ x. x.now) (take i blocks)) → Listed after (flat_map (λ x. x.now) (take (i + 1) blocks))
listed_more before after blocks i d h t k =
    subst (λ l. Listed after l) (sym (joined_more (λ x. x.now) blocks i d h)) (t.listed (flat_map (λ x. x.now) (take i blocks)) k)

-- the index at a fault, and at the end of the input
pub indexed_open : (x : Indexer) (input more whole : List ℕ) (e : Ending) → input ++ more ≡ whole → x.capture.closed ≡ false →
    Listed x input → Settled x.capture (comes x.capture) → ending_in (comes x.capture) ≡ Some e →
    Indexes whole (record { header = x.capture.header; entries = x.entries; ending = e })
indexed_open x input more whole e all opened k s q =
    let b = x.capture in
    record {
      records = k.records;
      reads = subst (λ l. Reads l b.header k.records e) all (ends_open b.header b.closed b.place (unread_of b) input more k.records e (comes b) opened k.fed s q);
      listed = k.listed;
    }

pub indexed_closed : (x : Indexer) (input : List ℕ) (e : Ending) → x.capture.closed ≡ true → takes (comes x.capture) ≡ 0 →
    Listed x input → Settled x.capture (comes x.capture) → e ≡ unwrap_or (ending_in (comes x.capture)) (Ok tt) →
    Indexes input (record { header = x.capture.header; entries = x.entries; ending = e })
indexed_closed x input e shut done k s q =
    let b = x.capture in
    record {
      records = k.records;
      reads = subst (λ x. Reads input b.header k.records x) (sym q) (ends_closed b.header b.closed b.place (unread_of b) input k.records (comes b) shut done k.fed s);
      listed = k.listed;
    }

-- a block that is not taken in leaves no index
pub not_indexed : (x : Indexer) (blocks : List (Bor (List ℕ))) (i : ℕ) (d : Bor (List ℕ)) (e : FeedError) → i < length blocks → x.capture.closed ≡ false →
    Listed x (flat_map (λ x. x.now) (take i blocks)) → NotTaken x.capture (get_or blocks i d).now e → NotIndexed (flat_map (λ x. x.now) blocks) e
not_indexed x blocks i d Closed h c k n = cc
not_indexed x blocks i d NoMemory h c k n = tt
not_indexed x blocks i d TooLong h c k n =
    let so_far = flat_map (λ x. x.now) (take i blocks) in
    let block = (get_or blocks i d).now in
    omega (
      arith,
      n.1,
      handed_long x.capture.header k.records x.capture.place (unread_of x.capture) so_far k.fed,
      ap length (joined_more (λ x. x.now) blocks i d h),
      length-append so_far block,
      ap length (joined_parts (λ x. x.now) blocks (i + 1)),
      length-append (flat_map (λ x. x.now) (take (i + 1) blocks)) (flat_map (λ x. x.now) (drop (i + 1) blocks)),
    )
