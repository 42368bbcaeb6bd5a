-- The report is what is told of the meter's answers.
use Rattle.std.proofs.Common.{◌≡◌, ℕ, ◌+◌, List, [], ◌∷◌, ◌++◌, map, Ok, Err, Result, sym, refl, ap, ◌∙◌, append_assoc, arith}
use Rattle.meter.specs.declared.measures.Arrival.{Arrival}
use Rattle.meter.specs.declared.measures.PacketColour.TheVariants.{Green, Yellow, Red}
use Rattle.meter.specs.declared.measures.State.{State}
use Rattle.meter.specs.Alone.{answers, coloured, left_by}
use Rattle.meter.specs.Runs.{Answer}
use Rattle.colour.specs.declared.entries.Count.{Count}
use Rattle.colour.specs.declared.entries.Counts.{Counts}
use Rattle.colour.specs.declared.arrivals.LineFault.{LineFault}
use Rattle.colour.specs.declared.entries.Rejection.TheVariants.{Malformed}
use Rattle.colour.specs.Arrivals.{arrival_of}
use Rattle.colour.specs.Texts.{entry_text, counts_text}
use Rattle.colour.specs.Report.{lines, none, more, verdict_by, verdict_of, meter_after, counted_by, counts_after, reported, report}
use Rattle.colour.specs.Told.{arrivals_in, woven, numbered, count_in, totals, told}

abbrev plus_count : Count → Count → Count
plus_count c d = record { packets = c.packets + d.packets; bytes = c.bytes + d.bytes }

abbrev plus : Counts → Counts → Counts
plus t u = record { green = plus_count t.green u.green; yellow = plus_count t.yellow u.yellow; red = plus_count t.red u.red }

count_is : (p q b d : ℕ) → p ≡ q → b ≡ d → ◌≡◌ {A = Count} (record { packets = p; bytes = b }) (record { packets = q; bytes = d })
count_is p q b d e f = cc

counts_is : (a b c x y z : Count) → a ≡ x → b ≡ y → c ≡ z → ◌≡◌ {A = Counts} (record { green = a; yellow = b; red = c }) (record { green = x; yellow = y; red = z })
counts_is a b c x y z e f g = cc

-- one packet more, noted in what came before or in what comes after
more_moves : (c d : Count) (n : ℕ) → plus_count (more c n) d ≡ plus_count c (more d n)
more_moves c d n = count_is _ _ _ _ (omega arith) (omega arith)

none_plus : (u : Counts) → plus none u ≡ u
none_plus u = counts_is _ _ _ _ _ _ (count_is _ _ _ _ (omega arith) (omega arith)) (count_is _ _ _ _ (omega arith) (omega arith)) (count_is _ _ _ _ (omega arith) (omega arith))

plus_none : (t : Counts) → t ≡ plus t none
plus_none t = counts_is _ _ _ _ _ _ (count_is _ _ _ _ (omega arith) (omega arith)) (count_is _ _ _ _ (omega arith) (omega arith)) (count_is _ _ _ _ (omega arith) (omega arith))

noted_moves : (t : Counts) (a : Arrival) (rest : List Arrival) (r : Answer) (rs : List Answer) → plus (counted_by t a.size.0 r) (totals rest rs) ≡ plus t (totals (a ∷ rest) (r ∷ rs))
noted_moves t a rest (Ok Green) rs = counts_is _ _ _ _ _ _ (more_moves t.green (count_in Green rest rs) a.size.0) refl refl
noted_moves t a rest (Ok Yellow) rs = counts_is _ _ _ _ _ _ refl (more_moves t.yellow (count_in Yellow rest rs) a.size.0) refl
noted_moves t a rest (Ok Red) rs = counts_is _ _ _ _ _ _ refl refl (more_moves t.red (count_in Red rest rs) a.size.0)
noted_moves t a rest (Err e) rs = refl

-- the text, with counts from before
abbrev since : Counts → ℕ → List (Result Arrival LineFault) → List Answer → List ℕ
since t k xs rs = numbered k (woven xs rs) ++ counts_text (plus t (totals (arrivals_in xs) rs))

abbrev Tells : List (List ℕ) → Type 0
Tells ls = (m : State) (k : ℕ) (t : Counts) → reported m k t ls ≡ since t k (map arrival_of ls) (answers m (arrivals_in (map arrival_of ls)))

one_more : (ls : List (List ℕ)) → Tells ls → (m : State) (k : ℕ) (t : Counts) (x : Result Arrival LineFault)
    → entry_text (k + 1) (verdict_of m x) ++ reported (meter_after m x) (k + 1) (counts_after t m x) ls ≡ since t k (x ∷ map arrival_of ls) (answers m (arrivals_in (x ∷ map arrival_of ls)))
one_more ls h m k t (Err w) =
    let xs = map arrival_of ls in
    let rs = answers m (arrivals_in xs) in
    ap (λ l. entry_text (k + 1) (Err (Malformed w)) ++ l) (h m (k + 1) t)
    ∙ sym (append_assoc (entry_text (k + 1) (Err (Malformed w))) (numbered (k + 1) (woven xs rs)) (counts_text (plus t (totals (arrivals_in xs) rs))))
one_more ls h m k t (Ok a) =
    let xs = map arrival_of ls in
    let r = coloured m a in
    let rs = answers (left_by m a) (arrivals_in xs) in
    let e = entry_text (k + 1) (verdict_by r) in
    ap (λ l. e ++ l) (h (left_by m a) (k + 1) (counted_by t a.size.0 r))
    ∙ ap (λ u. e ++ (numbered (k + 1) (woven xs rs) ++ counts_text u)) (noted_moves t a (arrivals_in xs) r rs)
    ∙ sym (append_assoc e (numbered (k + 1) (woven xs rs)) (counts_text (plus t (totals (a ∷ arrivals_in xs) (r ∷ rs)))))

tells : (ls : List (List ℕ)) → Tells ls
unfolding reported
tells [] m k t = ap counts_text (plus_none t)
tells (l ∷ ls) m k t = one_more ls (tells ls) m k t (arrival_of l)

pub report_told : (m : State) (input : List ℕ) → report m input ≡ told m input
report_told m input =
    let xs = map arrival_of (lines input) in
    let rs = answers m (arrivals_in xs) in
    tells (lines input) m 0 none ∙ ap (λ u. numbered 0 (woven xs rs) ++ counts_text u) (none_plus (totals (arrivals_in xs) rs))
