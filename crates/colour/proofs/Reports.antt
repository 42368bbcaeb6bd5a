-- What a line too long, a line's end and one byte more mean for the report.
use Rattle.std.proofs.Common.{◌≡◌, ℕ, ◌+◌, ◌<◌, Bool, true, false, cond, eqb, leb, List, [], ◌∷◌, ◌++◌, length, Err, vec_items, Result, sym, refl, ap, ◌∙◌, append_assoc, arith, length-append, ne_eqb}
use borrow.Author.Tests.{lt-leb}
use Rattle.std.proofs.lemmas.Bool.{cond-false}
use Rattle.meter.specs.declared.measures.Arrival.{Arrival}
use Rattle.meter.specs.declared.measures.State.{State}
use Rattle.kinds.specs.Kinds.{any_meaning}
use Rattle.colour.specs.declared.arrivals.LineFault.{LineFault}
use Rattle.colour.specs.declared.arrivals.LineFault.TheVariants.{TooLong}
use Rattle.colour.specs.declared.entries.Counts.{Counts}
use Rattle.colour.specs.declared.session.Session.{Session}
use Rattle.colour.specs.Arrivals.{arrival_of, moment_of}
use Rattle.colour.specs.Words.{words}
use Rattle.colour.specs.Texts.{entry_text, counts_text}
use Rattle.colour.specs.Report.{ending, lines_on, verdict_of, meter_after, counts_after, reported, text_from, held_line, Ended, Goes}

arrival_long : (l : List ℕ) → 120 < length l → arrival_of l ≡ Err TooLong
unfolding arrival_of
arrival_long l h = cond-false (leb (length l) 120) (moment_of (words l)) (Err TooLong) (lt-leb (length l) 120 h)

-- a line counts by its arrival alone
reported_by : (m : State) (k : ℕ) (t : Counts) (l j : List ℕ) (ls : List (List ℕ)) → arrival_of l ≡ arrival_of j → reported m k t (l ∷ ls) ≡ reported m k t (j ∷ ls)
unfolding reported
reported_by m k t l j ls e = ap (λ (a : Result Arrival LineFault). entry_text (k + 1) (verdict_of m a) ++ reported (meter_after m a) (k + 1) (counts_after t m a) ls) e

ending_none : (l : List ℕ) → length l ≡ 0 → ending l ≡ []
ending_none [] h = refl
ending_none (b ∷ l) h = absurd (omega arith)

ending_some : (l : List ℕ) → 0 < length l → ending l ≡ l ∷ []
ending_some [] h = absurd (omega arith)
ending_some (b ∷ l) h = refl

-- what a line holds beyond the longest makes no difference
pub reported_long : (m : State) (k : ℕ) (t : Counts) (l j rest : List ℕ) → 120 < length l → 120 < length j → reported m k t (lines_on l rest) ≡ reported m k t (lines_on j rest)
reported_long m k t l j [] p q =
    ap (reported m k t) (ending_some l (omega arith))
    ∙ reported_by m k t l j [] (arrival_long l p ∙ sym (arrival_long j q))
    ∙ sym (ap (reported m k t) (ending_some j (omega arith)))
reported_long m k t l j (b ∷ rest) p q =
    let p' : 120 < length (l ++ (b ∷ [])) = simp length-append (omega arith) in
    let q' : 120 < length (j ++ (b ∷ [])) = simp length-append (omega arith) in
    go (eqb b 10) (reported_long m k t (l ++ (b ∷ [])) (j ++ (b ∷ [])) rest p' q')
  where
    go : (v : Bool) → reported m k t (lines_on (l ++ (b ∷ [])) rest) ≡ reported m k t (lines_on (j ++ (b ∷ [])) rest) → reported m k t (cond v (l ∷ lines_on [] rest) (lines_on (l ++ (b ∷ [])) rest)) ≡ reported m k t (cond v (j ∷ lines_on [] rest) (lines_on (j ++ (b ∷ [])) rest))
    go true h = reported_by m k t l j (lines_on [] rest) (arrival_long l p ∙ sym (arrival_long j q))
    go false h = h

-- the session after a line, by what it has yet to write
reported_after : (s after : Session) (out wrote : List ℕ) → Ended s out after wrote → (ls : List (List ℕ)) → out ++ reported (any_meaning s.meter) s.lines s.counts (vec_items s.held ∷ ls) ≡ wrote ++ reported (any_meaning after.meter) after.lines after.counts ls
unfolding reported
reported_after s after out wrote e ls =
    let m = meter_after (any_meaning s.meter) (held_line s) in
    let t = counts_after s.counts (any_meaning s.meter) (held_line s) in
    sym (append_assoc out (entry_text (s.lines + 1) (verdict_of (any_meaning s.meter) (held_line s))) (reported m (s.lines + 1) t ls))
    ∙ ap (λ l. l ++ reported m (s.lines + 1) t ls) (sym e.text)
    ∙ ap (λ x. wrote ++ reported x (s.lines + 1) t ls) (sym e.meter)
    ∙ ap (λ n. wrote ++ reported (any_meaning after.meter) n t ls) (sym e.lines)
    ∙ ap (λ x. wrote ++ reported (any_meaning after.meter) after.lines x ls) (sym e.counts)

pub ended_goes : (s after : Session) (out wrote : List ℕ) (b : ℕ) → b ≡ 10 → Ended s out after wrote → Goes s out (b ∷ []) after wrote
ended_goes s after out wrote b is e rest =
    ap (λ x. out ++ text_from s (x ∷ rest)) is
    ∙ reported_after s after out wrote e (lines_on [] rest)
    ∙ ap (λ l. wrote ++ reported (any_meaning after.meter) after.lines after.counts (lines_on l rest)) (sym e.held)

-- a byte beyond the longest line is let go
pub skipped_goes : (s : Session) (out : List ℕ) (b : ℕ) → (b ≡ 10 → ⊥) → 120 < length (vec_items s.held) → Goes s out (b ∷ []) s out
skipped_goes s out b ne long rest =
    let l = vec_items s.held in
    let longer : 120 < length (l ++ (b ∷ [])) = simp length-append (omega arith) in
    ap (λ ls. out ++ reported (any_meaning s.meter) s.lines s.counts ls) (cond-false (eqb b 10) (l ∷ lines_on [] rest) (lines_on (l ++ (b ∷ [])) rest) (ne_eqb b 10 ne))
    ∙ ap (λ t. out ++ t) (reported_long (any_meaning s.meter) s.lines s.counts (l ++ (b ∷ [])) l rest longer long)

-- at the end of the input
pub last_none : (s : Session) → length (vec_items s.held) ≡ 0 → text_from s [] ≡ counts_text s.counts
unfolding reported
last_none s e = ap (reported (any_meaning s.meter) s.lines s.counts) (ending_none (vec_items s.held) e)

pub last_ended : (s after : Session) (out wrote : List ℕ) → 0 < length (vec_items s.held) → Ended s out after wrote → out ++ text_from s [] ≡ wrote ++ counts_text after.counts
unfolding reported
last_ended s after out wrote some e =
    ap (λ ls. out ++ reported (any_meaning s.meter) s.lines s.counts ls) (ending_some (vec_items s.held) some) ∙ reported_after s after out wrote e []

-- blocks one behind the other
pub goes_on : (s : Session) (out xs : List ℕ) (mid : Session) (part ys : List ℕ) (after : Session) (wrote : List ℕ) → Goes s out xs mid part → Goes mid part ys after wrote → Goes s out (xs ++ ys) after wrote
goes_on s out xs mid part ys after wrote p q rest = ap (λ l. out ++ text_from s l) (append_assoc xs ys rest) ∙ p (ys ++ rest) ∙ q rest
