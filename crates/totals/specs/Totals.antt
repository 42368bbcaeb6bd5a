-- The totals of a history: row 0 is the line's, and row k that of node k.
-- row_count: the line's row and one for each node that there can be; most_offered: the most records that are ever offered
-- on_row: the line counts every carried record, a node those with it on their path
-- is_yellow: carried yellow; green_in, yellow_in: does a row count the entry in that colour?
-- named_by: the node that a refusal names, 0 for none; denies: the line counts every refusal, a node those that name it
-- refusal_in: does a row count the entry as refused?
-- count_of, size_if: how many entries pass, and the bytes of those that do; total_of: a row's totals
-- LineLaw: each record offered is green, yellow or refused
-- AllSmall: no record is larger than a record can be; no_total: an empty row; Counts: a table has the totals of a history
-- top: the largest number; one_more: a count with a packet more; bumped, denied: a row with a carried record or a refusal more
-- changed_in: the rows with one changed; bumped_in, denied_in: the same so; bumped_all: every row of a path bumped
-- refused_in: the line's row denied, and that of the node named; noted: the rows with an answer noted
-- Falling: numbers above 0, each below the one before; Walked: the path and the node with which an answer may be noted
-- Noted: a table that has the totals of a history comes to have those of it with one entry more
-- Assumes nothing.
use Rattle.std.specs.Prelude.{◌≡◌, ℕ, ◌+◌, ◌<◌, ◌≤◌, min, Bool, true, false, cond, not, ◌&&◌, List, [], ◌∷◌, ◌++◌, length, Ok, Err, All, sum_by, count_by, ◌==◌, nat_lt, slice_index_or, slice_set}
use Rattle.meter.specs.declared.measures.Colour.{Colour}
use Rattle.meter.specs.declared.measures.Colour.TheVariants.{Green, Yellow}
use Rattle.history.specs.declared.answers.Refusal.{Refusal}
use Rattle.history.specs.declared.answers.Refusal.TheVariants.{BadFraction, BadLength, TooMany, Backward, ShortFrame, BadHeader, NoRule, TableFull, MarkedRed, OverDepth, OverExcess}
use Rattle.history.specs.Answers.{Answer, is_carried, carried_green}
use Rattle.history.specs.Histories.{Config, Offer, Entry, History, entry_of, nodes_of, on_node}
use Rattle.totals.specs.declared.rows.Count.{Count}
use Rattle.totals.specs.declared.rows.Total.{Total}
use Rattle.totals.specs.declared.rows.Totals as table

abbrev pub row_count : ℕ
row_count = 33

abbrev pub most_offered : ℕ
most_offered = 4294967295

abbrev pub on_row : Config → ℕ → Entry → Bool
on_row g k e = cond (k == 0) true (on_node g k e.offer)

abbrev pub is_yellow : Answer → Bool
is_yellow a = is_carried a && not (carried_green a)

abbrev pub green_in : Config → ℕ → Entry → Bool
green_in g k e = on_row g k e && carried_green e.answer

abbrev pub yellow_in : Config → ℕ → Entry → Bool
yellow_in g k e = on_row g k e && is_yellow e.answer

abbrev pub named_by : Refusal → ℕ
named_by BadFraction = 0
named_by BadLength = 0
named_by TooMany = 0
named_by Backward = 0
named_by ShortFrame = 0
named_by BadHeader = 0
named_by NoRule = 0
named_by TableFull = 0
named_by MarkedRed = 0
named_by (OverDepth q) = q.node
named_by (OverExcess q) = q.node

abbrev pub denies : ℕ → Answer → Bool
denies k (Ok c) = false
denies k (Err e) = cond (k == 0) true (k == named_by e)

abbrev pub refusal_in : ℕ → Entry → Bool
refusal_in k e = denies k e.answer

abbrev pub size_if : (Entry → Bool) → Entry → ℕ
size_if p e = cond (p e) e.offer.size 0

abbrev pub count_of : (Entry → Bool) → History → Count
count_of p h = record { packets = count_by p h; bytes = sum_by (size_if p) h }

abbrev pub total_of : Config → History → ℕ → Total
total_of g h k =
    record { green = count_of (green_in g k) h; yellow = count_of (yellow_in g k) h; refused = count_by (refusal_in k) h }

abbrev pub LineLaw : Type 0
LineLaw =
    (g : Config) (h : History) → length h ≡ ((total_of g h 0).green.packets + (total_of g h 0).yellow.packets) + (total_of g h 0).refused

-- no record is larger than a record can be
abbrev pub AllSmall : History → Type 0
AllSmall h = All (λ e. e.offer.size ≤ 65535) h

abbrev pub no_total : Total
no_total = record { green = record { packets = 0; bytes = 0 }; yellow = record { packets = 0; bytes = 0 }; refused = 0 }

pub record Counts (g : Config) (h : History) (t : table.Totals) : Type 0 where
  pub small : AllSmall h
  pub few : length h ≤ most_offered
  pub offered : t.offered ≡ length h
  pub long : length t.rows ≡ row_count
  pub rows : (k : ℕ) → k < row_count → slice_index_or t.rows k no_total ≡ total_of g h k

-- no total goes above the largest number; those of a history never reach it
abbrev pub top : ℕ
top = 18446744073709551615

abbrev pub one_more : Count → ℕ → Count
one_more c n = record { packets = min (c.packets + 1) top; bytes = min (c.bytes + n) top }

abbrev pub bumped : Total → Colour → ℕ → Total
bumped r Green n = record r { green = one_more r.green n }
bumped r Yellow n = record r { yellow = one_more r.yellow n }

abbrev pub denied : Total → Total
denied r = record r { refused = min (r.refused + 1) top }

-- a number past the table changes nothing
abbrev pub changed_in : (Total → Total) → List Total → ℕ → List Total
changed_in f rs k = cond (nat_lt k row_count) (slice_set rs k (f (slice_index_or rs k no_total))) rs

abbrev pub bumped_in : List Total → ℕ → Colour → ℕ → List Total
bumped_in rs k c n = changed_in (λ r. bumped r c n) rs k

abbrev pub denied_in : List Total → ℕ → List Total
denied_in rs k = changed_in denied rs k

abbrev pub bumped_all : List Total → List ℕ → Colour → ℕ → List Total
bumped_all rs [] c n = rs
bumped_all rs (k ∷ ks) c n = bumped_all (bumped_in rs k c n) ks c n

abbrev pub refused_in : List Total → ℕ → List Total
refused_in rs k = cond (k == 0) (denied_in rs 0) (denied_in (denied_in rs 0) k)

abbrev pub noted : List Total → List ℕ → ℕ → Answer → List Total
noted rs ks n (Ok c) = bumped_all rs ks c n
noted rs ks n (Err e) = refused_in rs (named_by e)

-- the first is below b
abbrev pub Falling : ℕ → List ℕ → Type 0
Falling b [] = Unit {0}
Falling b (k ∷ ks) = (0 < k) × (k < b) × Falling k ks

-- a carried record goes along its path, whose first layer is the line's row; a refusal names a row
abbrev pub Walked : Config → Offer → List ℕ → Answer → Type 0
Walked g o path (Ok c) = (path ≡ 0 ∷ nodes_of g o) × Falling row_count (nodes_of g o)
Walked g o path (Err e) = named_by e < row_count

abbrev pub Noted : List ℕ → ℕ → Answer → table.Totals → table.Totals → Type 0
Noted path n a t u =
    (g : Config) (h : History) (o : Offer) →
    Counts g h t → length h < most_offered → o.size ≡ n → o.size ≤ 65535 → Walked g o path a → Counts g (h ++ (entry_of o a ∷ [])) u
