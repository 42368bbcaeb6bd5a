use Rattle.std.proofs.Common.{◌≡◌, ℕ, ◌+◌, ◌<◌, ◌≤◌, ltb, List, [], ◌∷◌, ◌++◌, length, Ok, Err, vec_items, Result, sym, ap, ◌∙◌, subst, arith, rules, tests}
use Rattle.std.proofs.lemmas.List.{nil_from_length, length_push}
use Rattle.std.specs.Iterator.Adapters.{enumerate_source, enumerate_count}
use Rattle.std.specs.Slice.Iter.{split_inclusive_rest}
use Rattle.std.proofs.lemmas.Fn.{always_returns_same}
use Rattle.std.proofs.lemmas.Result.{err_from_is_err_and}
use Rattle.std.proofs.lemmas.Bool.{cond-true, cond-false, lt-ltb, le-ltb}
use Rattle.kinds.specs.declared.profiles.AnyMeter.{AnyMeter}
use Rattle.policy.specs.declared.policies.Policy.{Policy}
use Rattle.policy.specs.Policies.{parents_of}
use Rattle.policy_words.specs.Words.{then}
use Rattle.policy_text.specs.declared.lines.Line.{Line}
use Rattle.policy_text.specs.declared.reader.Fault.{Fault}
use Rattle.policy_text.specs.Policies.{lined, broken, read_from, read_after, read_text, step_of, Built, Grown, Answered}
use Rattle.policy_text.proofs.Splits.{step_is, step_less, step_fits, count_is, Kept, Turn, turn, ends_kept}
use Rattle.policy_text.proofs.Whole.{is_policy, is_fault}
use Rattle.policy_text.proofs.reader.read_lines.Goals as goal

-- the next line, at the policy so far
abbrev next : Policy AnyMeter → ℕ → List ℕ → Result (Line × List ℕ) Fault
next p n rest = step_of (n + 1) (parents_of p.tree) (length (vec_items p.rules)) rest

abbrev onward : List Line → Line × List ℕ → Result (List Line) Fault
onward xs p = read_after (xs ++ p.0 ∷ []) p.1

short : (t : List ℕ) → length t ≤ 65536 → read_text t ≡ read_after [] t
unfolding read_text
short t h = cond-false (ltb 65536 (length t)) (lined 0 (Err broken)) (read_after [] t) (le-ltb 65536 (length t) h)

steps : (t : List ℕ) (p : Policy AnyMeter) (n : ℕ) (rest : List ℕ) (h : Kept t p n rest) → 0 < length rest → read_after [] t ≡ then (next p n rest) (onward h.0)
steps t p n rest h some =
    let xs = h.0 in
    let count = count_is xs p h.1 in
    sym h.2 ∙ step_is xs rest some ∙ (λ i. then (step_of (sym h.3 i + 1) (sym h.1.parents i) (sym count i) rest) (onward xs))

stopped : (t : List ℕ) (p : Policy AnyMeter) (n : ℕ) (rest : List ℕ) (f : Fault) → length t ≤ 65536 → Kept t p n rest → 0 < length rest → next p n rest ≡ Err f → read_text t ≡ Err f
stopped t p n rest f fits h some e = short t fits ∙ steps t p n rest h some ∙ ap (λ r. then r (onward h.0)) e

again : (t : List ℕ) (p q : Policy AnyMeter) (n : ℕ) (rest after : List ℕ) (x : Line) → Kept t p n rest → 0 < length rest
    → next p n rest ≡ Ok (x, after) → Grown p q x → Kept t q (n + 1) after
again t p q n rest after x h some step grown = (
  h.0 ++ x ∷ [],
  grown h.0 h.1,
  sym (steps t p n rest h some ∙ ap (λ r. then r (onward h.0)) step),
  omega (arith, h.3, length_push h.0 x),
  omega (arith, h.4, step_less (n + 1) (parents_of p.tree) (length (vec_items p.rules)) rest (x, after) step),
)

begun : (t : List ℕ) (p : Policy AnyMeter) (n : ℕ) (rest : List ℕ) → Built [] p → n ≡ 0 → rest ≡ t → Kept t p n rest
begun t p n rest built none all = ([], built, ap (read_after []) all, none, omega (arith, ap length all))

-- the line that a turn takes is the next line
taken : (p : Policy AnyMeter) (n m i : ℕ) (before l after : List ℕ) (r : Result (Line × List ℕ) Fault) → Turn n m i before l after
    → step_of (i + 1) (parents_of p.tree) (length (vec_items p.rules)) (l ++ after) ≡ r → next p n before ≡ r
taken p n m i before l after r turn h =
    (λ j. step_of (sym turn.at j + 1) (parents_of p.tree) (length (vec_items p.rules)) (turn.cut j)) ∙ h

pub returns-then-text-gt-MOST_BYTES : goal.returns-then-text-gt-MOST_BYTES
unfolding read_text
returns-then-text-gt-MOST_BYTES c =
    let t = c.args.text.now in
    is_fault t _ (cond-true _ (lined 0 (Err broken)) _ (lt-ltb 65536 (length t) c.if-text-gt-MOST_BYTES.true))

pub loop-i-init : goal.loop-i-init
loop-i-init c =
    let it = c.into_iter-i-iterator.ensures.into_iter_gives in
    begun c.args.text.now c.new-policy.result _ _ (record { parents = search rules; meters = search rules; rules = search rules })
    (ap enumerate_count it ∙ c.enumerate-i-items.ensures.count)
    (ap (λ s. split_inclusive_rest (enumerate_source s)) it ∙ ap split_inclusive_rest c.enumerate-i-items.ensures.source ∙ c.split_inclusive.ensures.rest)

pub returns-in_err-line : goal.returns-in_err-line
returns-in_err-line c =
    let e = err_from_is_err_and c.from_residual.result c.from_residual.ensures.1 in
    let t = c.args.text.now in
    let l = c.loop-i in
    let ends = ends_kept _ _ _ _ l.yielded_by (always_returns_same _ _ _ (λ x r f k. search (rules, tests))) in
    let u = turn _ l.i-iterator c.next.new.self c.in-Some.i c.in-Some.line c.in-Some.ensures.steps ends in
    let f = c.in_err-line.field-0.0 in
    let is = taken l.policy _ _ _ _ _ _ (Err f) u (c.in_err-line.ensures _ u.first) in
    subst (Answered t) (sym (e.1 ∙ ap Err e.2))
    (is_fault t f (stopped t l.policy (enumerate_count l.i-iterator) _ f c.if-text-gt-MOST_BYTES.false l.invariant u.some is))

pub add_line-requires : goal.add_line-requires
add_line-requires c =
    let l = c.loop-i in
    let ends = ends_kept _ _ _ _ l.yielded_by (always_returns_same _ _ _ (λ x r f k. search (rules, tests))) in
    let u = turn _ l.i-iterator c.next.new.self c.in-Some.i c.in-Some.line c.in-Some.ensures.steps ends in
    let is = taken l.policy _ _ _ _ _ _ (Ok (c.in_ok-line.line, _)) u (c.in_ok-line.ensures _ u.first) in
    step_fits (enumerate_count l.i-iterator + 1) (parents_of l.policy.tree) (length (vec_items l.policy.rules)) _ (c.in_ok-line.line, _) is

pub loop-i-preserved : goal.loop-i-preserved
loop-i-preserved c =
    let t = c.args.text.now in
    let l = c.loop-i in
    let ends = ends_kept _ _ _ _ l.yielded_by (always_returns_same _ _ _ (λ x r f k. search (rules, tests))) in
    let u = turn _ l.i-iterator c.next.new.self c.in-Some.i c.in-Some.line c.in-Some.ensures.steps ends in
    let is = taken l.policy _ _ _ _ _ _ (Ok (c.in_ok-line.line, _)) u (c.in_ok-line.ensures _ u.first) in
    subst (λ k. Kept t c.add_line.new.policy k (split_inclusive_rest (enumerate_source c.next.new.self))) (sym u.next)
    (again t l.policy _ (enumerate_count l.i-iterator) _ _ c.in_ok-line.line l.invariant u.some is c.in_ok-add_line.ensures)

pub returns : goal.returns
unfolding read_from
returns c =
    let t = c.args.text.now in
    let l = c.loop-i in
    let nil = nil_from_length (split_inclusive_rest (enumerate_source l.i-iterator)) c.in-None.ensures.steps.0.0 in
    is_policy t l.invariant.0 l.policy (short t c.if-text-gt-MOST_BYTES.false ∙ sym l.invariant.2 ∙ ap (read_after l.invariant.0) nil) l.invariant.1
