-- A capture has one reading, and each frame lies in it.
use Rattle.std.proofs.Common.{◌≡◌, ℕ, ◌+◌, true, List, [], ◌∷◌, ◌++◌, map, length, take, drop, Some, None, Ok, Err, Result, sym, refl, ap, ◌∙◌, subst, append_assoc, arith}
use Rattle.std.proofs.lemmas.Bool.Decides.{nat_tests}
use Rattle.std.proofs.lemmas.List.{append-nil, append_cancel_left, length-append, drop_at, drop-drop, take_at}
use Rattle.capture.specs.declared.layout.Order.{Order}
use Rattle.capture.specs.declared.layout.Refusal.{Refusal}
use Rattle.capture.specs.declared.layout.FileHeader.{FileHeader}
use Rattle.capture.specs.Records.{head_size, Entry, Good, record_bytes, whole, at_hand}
use Rattle.capture.specs.Headers.{file_head_size, header_bytes, header_of}
use Rattle.capture.specs.Reading.{PlacedEntry, placed_at, header, handed, following, next_of, written, Follow, AllGood, Spells, Ending, ending_of, Reads}
use Rattle.capture.specs.Indexing.{index_entry_of}
use Rattle.capture.specs.Laws.{ReadsAgree, IndexesAgree, FramesLie}
use Rattle.capture.proofs.Entries.{read_again, good_written}
use Rattle.capture.proofs.FileHeads.{header_again, header_long}
use Rattle.capture.proofs.Going.{record_long}

same_ending : (e e' : Ending) → ending_of e ≡ ending_of e' → e ≡ e'
same_ending (Ok u) (Ok v) q = refl
same_ending (Ok u) (Err f) q = cc
same_ending (Err f) (Ok u) q = cc
same_ending (Err f) (Err g) q = let same : f ≡ g = cc in ap (λ x. Err x) same

-- neither a record nor a header is an ending
no_record : (e : Ending) (r : PlacedEntry) → handed r ≡ ending_of e → ⊥
no_record (Ok u) r q = cc
no_record (Err f) r q = cc

no_header : (e : Ending) (h : FileHeader) → header h ≡ ending_of e → ⊥
no_header (Ok u) h q = cc
no_header (Err f) h q = cc

-- where a whole record stands, the capture does not end
goes_past : (o : Order) (p : ℕ) (rest tail : List ℕ) (r : Entry) (e : Ending) → Good r → rest ≡ record_bytes o r ++ tail →
    following true p rest (at_hand o rest) ≡ ending_of e → ⊥
goes_past o p rest tail r e g s q =
    let at : at_hand o rest ≡ whole r = ap (λ l. at_hand o l) s ∙ read_again o r tail g in
    no_record e (placed_at p r) (sym (ap (λ x. following true p rest x) at) ∙ q)

same_whole : (e e' : Entry) → whole e ≡ whole e' → e ≡ e'
same_whole e e' q = cc

records_agree : (o : Order) (rs rs' : List PlacedEntry) (p q q' : ℕ) (rest rest' : List ℕ) (e e' : Ending) → AllGood rs → AllGood rs' →
    Follow p rs q → Follow p rs' q' → written o rs ++ rest ≡ written o rs' ++ rest' →
    following true q rest (at_hand o rest) ≡ ending_of e → following true q' rest' (at_hand o rest') ≡ ending_of e' → (rs ≡ rs') × (e ≡ e')
records_agree o [] [] p q q' rest rest' e e' g g' f f' s n n' =
    let places : q ≡ q' = f ∙ sym f' in
    let same : following true q rest (at_hand o rest) ≡ following true q' rest' (at_hand o rest') =
    ap (λ k. following true k rest (at_hand o rest)) places ∙ ap (λ l. following true q' l (at_hand o l)) s in
    (refl, same_ending e e' (sym n ∙ same ∙ n'))
records_agree o [] (r' ∷ rs') p q q' rest rest' e e' g g' f f' s n n' =
    absurd (goes_past o q rest (written o rs' ++ rest') r'.entry e g'.0 (s ∙ append_assoc (record_bytes o r'.entry) (written o rs') rest') n)
records_agree o (r ∷ rs) [] p q q' rest rest' e e' g g' f f' s n n' =
    absurd (goes_past o q' rest' (written o rs ++ rest) r.entry e' g.0 (sym s ∙ append_assoc (record_bytes o r.entry) (written o rs) rest) n')
records_agree o (r ∷ rs) (r' ∷ rs') p q q' rest rest' e e' g g' f f' s n n' =
    let W = written o rs ++ rest in
    let W' = written o rs' ++ rest' in
    let cut : record_bytes o r.entry ++ W ≡ record_bytes o r'.entry ++ W' =
    sym (append_assoc (record_bytes o r.entry) (written o rs) rest) ∙ s ∙ append_assoc (record_bytes o r'.entry) (written o rs') rest' in
    let entries : r.entry ≡ r'.entry =
    same_whole r.entry r'.entry (sym (read_again o r.entry W g.0) ∙ ap (λ l. at_hand o l) cut ∙ read_again o r'.entry W' g'.0) in
    let behind : W ≡ W' =
    append_cancel_left (record_bytes o r.entry) W W' (cut ∙ ap (λ x. record_bytes o x ++ W') (sym entries)) in
    let next : Follow (p + (head_size + length r.entry.frame)) rs' q' =
    subst (λ x. Follow (p + (head_size + length x.frame)) rs' q') (sym entries) f'.1 in
    let others = records_agree o rs rs' (p + (head_size + length r.entry.frame)) q q' rest rest' e e' g.1 g'.1 f.1 next behind n n' in
    let places : r.place ≡ r'.place = f.0 ∙ sym f'.0 in
    let first : r ≡ r' = ap (λ k. placed_at k r.entry) places ∙ ap (λ x. placed_at r'.place x) entries in
    (ap (λ x. x ∷ rs) first ∙ ap (λ l. r' ∷ l) others.0, others.1)

-- a capture with a header begins with it
begins : (input : List ℕ) (h : FileHeader) (rs : List PlacedEntry) (p : ℕ) (rest : List ℕ) → Spells h rs p rest input → header_of input ≡ Ok h
begins input h rs p rest k = ap header_of k.spelled ∙ header_again h (written h.order rs ++ rest) k.fit

-- where there is a header, the capture does not end before it
has_header : (input : List ℕ) (h : FileHeader) (p : ℕ) (e : Ending) → header_of input ≡ Ok h → next_of None true p input ≡ ending_of e → ⊥
has_header input h p e k q = grind (arith, nat_tests, no_header)

unheaded : (input : List ℕ) (h : FileHeader) (rs rs' : List PlacedEntry) (e e' : Ending) → Reads input None rs e → Reads input (Some h) rs' e' → ⊥
unheaded input h rs rs' e e' n s =
    has_header input h n.place e (begins input h rs' s.place s.rest s.handed_out)
    (ap (λ l. next_of None true n.place l) (sym n.handed_out.2) ∙ n.ends)

pub reads_agree : ReadsAgree
reads_agree input None None rs rs' e e' a b =
    let same : next_of None true a.place a.rest ≡ next_of None true b.place b.rest =
    ap (λ l. next_of None true a.place l) (a.handed_out.2 ∙ sym b.handed_out.2) in
    (refl, a.handed_out.0 ∙ sym b.handed_out.0, same_ending e e' (sym a.ends ∙ same ∙ b.ends))
reads_agree input None (Some h) rs rs' e e' a b = absurd (unheaded input h rs rs' e e' a b)
reads_agree input (Some h) None rs rs' e e' a b = absurd (unheaded input h rs' rs e' e b a)
reads_agree input (Some h) (Some h') rs rs' e e' a b =
    let x = a.handed_out in
    let y = b.handed_out in
    let headers : h ≡ h' = same_ok h h' (sym (begins input h rs a.place a.rest x) ∙ begins input h' rs' b.place b.rest y) in
    let other : Spells h rs' b.place b.rest input = subst (λ k. Spells k rs' b.place b.rest input) (sym headers) y in
    let ends : following true b.place b.rest (at_hand h.order b.rest) ≡ ending_of e' =
    ap (λ k. following true b.place b.rest (at_hand k.order b.rest)) headers ∙ b.ends in
    let behind : written h.order rs ++ a.rest ≡ written h.order rs' ++ b.rest =
    append_cancel_left (header_bytes h) (written h.order rs ++ a.rest) (written h.order rs' ++ b.rest) (sym x.spelled ∙ other.spelled) in
    let both = records_agree h.order rs rs' file_head_size a.place b.place a.rest b.rest e e' x.good other.good x.follow other.follow behind a.ends ends in
    (ap (λ k. Some k) headers, both.0, both.1)
  where
    same_ok : (h h' : FileHeader) → ◌≡◌ {A = Result FileHeader Refusal} (Ok h) (Ok h') → h ≡ h'
    same_ok h h' q = cc

pub indexes_agree : IndexesAgree
indexes_agree input x y a b =
    let same = reads_agree input x.header y.header a.records b.records x.ending y.ending a.reads b.reads in
    (same.0, a.listed ∙ ap (λ rs. map index_entry_of rs) same.1 ∙ sym b.listed, same.2)

-- a record stands at its place
stands : (o : Order) (before : List ℕ) (xs : List PlacedEntry) (r : PlacedEntry) (ys : List PlacedEntry) (p q : ℕ) (tail : List ℕ) → length before ≡ p →
    Follow p (xs ++ (r ∷ ys)) q → drop r.place (before ++ (written o (xs ++ (r ∷ ys)) ++ tail)) ≡ record_bytes o r.entry ++ (written o ys ++ tail)
stands o before [] r ys p q tail l f =
    drop_at before ((record_bytes o r.entry ++ written o ys) ++ tail) r.place (l ∙ sym f.0) ∙ append_assoc (record_bytes o r.entry) (written o ys) tail
stands o before (x ∷ xs) r ys p q tail l f =
    let more = before ++ record_bytes o x.entry in
    let long : length more ≡ p + (head_size + length x.entry.frame) =
    omega (arith, length-append before (record_bytes o x.entry), record_long o x.entry, l) in
    let regroup : before ++ ((record_bytes o x.entry ++ written o (xs ++ (r ∷ ys))) ++ tail) ≡ more ++ (written o (xs ++ (r ∷ ys)) ++ tail) = simp append_assoc in
    ap (λ k. drop r.place k) regroup ∙ stands o more xs r ys (p + (head_size + length x.entry.frame)) q tail long f.1

good_at : (xs : List PlacedEntry) (r : PlacedEntry) (ys : List PlacedEntry) → AllGood (xs ++ (r ∷ ys)) → Good r.entry
good_at [] r ys g = g.0
good_at (x ∷ xs) r ys g = good_at xs r ys g.1

pub frames_lie : FramesLie
frames_lie input h rs e k xs r ys split =
    let o = h.order in
    let n = length r.entry.frame in
    let s = k.handed_out in
    let follow : Follow file_head_size (xs ++ (r ∷ ys)) k.place = subst (λ l. Follow file_head_size l k.place) split s.follow in
    let good : Good r.entry = good_at xs r ys (subst AllGood split s.good) in
    let spelled : input ≡ header_bytes h ++ (written o (xs ++ (r ∷ ys)) ++ k.rest) =
    s.spelled ∙ ap (λ l. header_bytes h ++ (written o l ++ k.rest)) split in
    let long : length (header_bytes h) ≡ file_head_size =
    omega (arith, header_long h [] s.fit, ap length (append-nil (header_bytes h))) in
    let tail = written o ys ++ k.rest in
    let at : drop r.place input ≡ record_bytes o r.entry ++ tail =
    ap (λ l. drop r.place l) spelled ∙ stands o (header_bytes h) xs r ys file_head_size k.place k.rest long follow in
    let frame : drop (r.place + head_size) input ≡ r.entry.frame ++ tail =
    sym (drop-drop head_size r.place input) ∙ ap (λ l. drop head_size l) at ∙ (good_written o r.entry tail good).behind in
    ap (λ l. take n l) frame ∙ take_at r.entry.frame tail n refl
