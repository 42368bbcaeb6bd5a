-- The laws of a policy's text: what is read is so written, what is written is read, and the fault that is named is the first.
-- join: the text of parts; Read: the lines that parts write; Stops: the lines before a fault; of_node, of_rule: what a line adds
-- Cleans: parts without a line feed
-- Assumes nothing.
use Rattle.std.proofs.Common.{◌≡◌, ℕ, suc, ◌+◌, ◌*◌, ◌<◌, ◌≤◌, Bool, true, false, cond, not, eqb, ltb, List, [], ◌∷◌, ◌++◌, map, length, Ok, Err, Result, sym, refl, ap, ◌∙◌, subst, inl, inr, append_assoc, append-nil, arith}
use Rattle.std.proofs.lemmas.List.{length-append, length-map}
use Rattle.std.proofs.lemmas.Bool.{cond-false, and_parts, and_from, eqb-true, not-true, not_from_false, ltb-true, ltb-false, le-ltb}
use Rattle.kinds.specs.declared.profiles.AnyMeter.{AnyMeter}
use Rattle.policy.specs.declared.rules.Refusal.TheVariants.{TooManyRules}
use Rattle.policy.specs.declared.policies.Policy.{Policy}
use Rattle.policy.specs.Policies.{before, known_of}
use Rattle.policy.proofs.Taken.{made_placed}
use Rattle.policy_words.specs.Words.{then}
use Rattle.policy_words.proofs.Readings.{then_ok, ok_cond, same_ok}
use Rattle.policy_words.proofs.Tidy.{clean}
use Rattle.policy_text.specs.declared.lines.LineFault.{LineFault}
use Rattle.policy_text.specs.declared.lines.NodeLine.{NodeLine}
use Rattle.policy_text.specs.declared.lines.Line.{Line}
use Rattle.policy_text.specs.declared.lines.Line.TheVariants.{Node, Rule}
use Rattle.policy_text.specs.declared.reader.Fault.{Fault}
use Rattle.policy_text.specs.declared.reader.PolicyFault.{PolicyFault}
use Rattle.policy_text.specs.declared.reader.PolicyFault.TheVariants.{Memory, At}
use Rattle.policy_text.specs.Lines.{line_of}
use Rattle.policy_text.specs.Texts.{line_text, LineOk}
use Rattle.policy_text.specs.Policies.{lined, broken, nodes_in, rules_in, parents_in, count_in, onto, lines_of, read_from, read_after, read_text, line_len, text_of, LinesOk, Built, AnsweredBy, Answered, Canonical, Gives, Begun, AtFault, Follows, First}
use Rattle.policy_text.proofs.Tails.{same_err}
use Rattle.policy_text.proofs.Written.{line_back, line_forth}
use Rattle.policy_text.proofs.Firsts.{line_first}
use Rattle.policy_text.proofs.Tidy.{tidy_line}
use Rattle.policy_text.proofs.Splits.{lined_ok, nodes_push, rules_push}

abbrev join : List (List ℕ) → List ℕ → List ℕ
join [] tail = tail
join (l ∷ ls) tail = l ++ (10 ∷ join ls tail)

join_onto : (c : ℕ) (p : List (List ℕ) × List ℕ) → join (onto c p).0 (onto c p).1 ≡ c ∷ join p.0 p.1
join_onto c ([], tail) = refl
join_onto c (l ∷ ls, tail) = refl

join_cut : (t : List ℕ) → join (lines_of t).0 (lines_of t).1 ≡ t
join_cut [] = refl
join_cut (c ∷ cs) = go (eqb c 10) refl (join_cut cs)
  where
    go : (b : Bool) → eqb c 10 ≡ b → join (lines_of cs).0 (lines_of cs).1 ≡ cs
        → join (cond b ([] ∷ (lines_of cs).0, (lines_of cs).1) (onto c (lines_of cs))).0 (cond b ([] ∷ (lines_of cs).0, (lines_of cs).1) (onto c (lines_of cs))).1 ≡ c ∷ cs
    go true e ih = let z = eqb-true c 10 e in (λ i. sym z i ∷ ih i)
    go false e ih = join_onto c (lines_of cs) ∙ ap (λ l. c ∷ l) ih

join_text : (ys : List Line) → join (map line_text ys) [] ≡ text_of ys
join_text [] = refl
join_text (y ∷ ys) = ap (λ l. line_text y ++ (10 ∷ l)) (join_text ys)

-- what is read is written so

abbrev Read : List Line → List (List ℕ) → List ℕ → List Line → Type 0
Read xs ls tail out = (ys : List Line) × (out ≡ xs ++ ys) × (ls ≡ map line_text ys) × (tail ≡ []) × LinesOk xs ys

from_back : (xs : List Line) (ls : List (List ℕ)) (tail : List ℕ) (out : List Line) → read_from xs ls tail ≡ Ok out → Read xs ls tail out
unfolding read_from
from_back xs [] [] out h = ([], sym (same_ok h) ∙ sym (append-nil xs), refl, refl, tt)
from_back xs [] (c ∷ tail) out h = cc
from_back xs (l ∷ ls) tail out h =
    let a = ok_cond (ltb 120 (length l)) _ _ out h in
    let b = then_ok (lined (length xs + 1) (line_of (parents_in xs) (count_in xs) l)) (λ x. read_from (xs ++ x ∷ []) ls tail) out a.1 in
    let k = line_back (parents_in xs) (count_in xs) l b.0 (lined_ok (length xs + 1) (line_of (parents_in xs) (count_in xs) l) b.0 b.1) in
    let ih = from_back (xs ++ b.0 ∷ []) ls tail out b.2 in
    (b.0 ∷ ih.0, ih.1 ∙ append_assoc xs (b.0 ∷ []) ih.0, (λ i. k.0 i ∷ ih.2 i), ih.3, (k.1, ih.4))

text_back : (t : List ℕ) (ys : List Line) → read_text t ≡ Ok ys → (t ≡ text_of ys) × LinesOk [] ys
unfolding read_text
text_back t ys h =
    let a = ok_cond (ltb 65536 (length t)) (read_after [] t) _ ys h in
    let r = from_back [] (lines_of t).0 (lines_of t).1 ys a.1 in
    let same : ys ≡ r.0 = r.1 in
    (sym (join_cut t) ∙ (λ i. join (r.2 i) (r.3 i)) ∙ join_text r.0 ∙ ap text_of (sym same), subst (LinesOk []) (sym same) r.4)

-- what is written is read

cut_clean : (l u : List ℕ) → clean l ≡ true → lines_of (l ++ (10 ∷ u)) ≡ (l ∷ (lines_of u).0, (lines_of u).1)
cut_clean [] u h = refl
cut_clean (c ∷ cs) u h =
    let p = and_parts (not (eqb c 10)) (clean cs) h in
    cond-false (eqb c 10) _ _ (not-true (eqb c 10) p.0) ∙ ap (onto c) (cut_clean cs u p.1)

abbrev of_node : Line → ℕ
of_node x = length (nodes_in (x ∷ []))

abbrev of_rule : Line → ℕ
of_rule x = length (rules_in (x ∷ []))

one_line : (x : Line) → of_node x + of_rule x ≡ 1
one_line (Node n) = refl
one_line (Rule r) = refl

node_room_lem : (ps : List ℕ) (n : ℕ) (x : Line) → length ps ≤ 32 → LineOk ps n x → length ps + of_node x ≤ 32
node_room_lem ps n (Node x) h ok = let room = (made_placed ps x.number x.parent (Ok x.parent) (sym ok.0)).room in omega arith
node_room_lem ps n (Rule r) h ok = omega arith

rule_room_lem : (ps : List ℕ) (n : ℕ) (x : Line) → n ≤ 64 → LineOk ps n x → n + of_rule x ≤ 64
rule_room_lem ps n (Node x) h ok = omega arith
rule_room_lem ps n (Rule r) h ok = let room = go (ltb n 64) refl ok.0 in omega arith
  where
    go : (b : Bool) → ltb n 64 ≡ b → before (cond b (Ok (n + 1)) (Err TooManyRules)) (known_of ps r.parent) ≡ Ok r.parent → n < 64
    go true e h = ltb-true n 64 e
    go false e h = cc

-- what the lines before allow, with one line more
nodes_more : (xs : List Line) (y : Line) → length (parents_in xs) ≤ 32 → LineOk (parents_in xs) (count_in xs) y → length (parents_in (xs ++ y ∷ [])) ≤ 32
nodes_more xs y few ok =
    let all : List NodeLine = nodes_in (xs ++ y ∷ []) in
    let room = node_room_lem (parents_in xs) (count_in xs) y few ok in
    omega (arith, length-map (nodes_in xs) (λ x. x.parent), length-map all (λ x. x.parent), ap length (nodes_push xs y), length-append (nodes_in xs) (nodes_in (y ∷ [])))

cut_text : (xs ys : List Line) → length (parents_in xs) ≤ 32 → LinesOk xs ys → lines_of (text_of ys) ≡ (map line_text ys, [])
cut_text xs [] few ok = refl
cut_text xs (y ∷ ys) few ok =
    let d = tidy_line (parents_in xs) (count_in xs) y few ok.0 in
    let ih = cut_text (xs ++ y ∷ []) ys (nodes_more xs y few ok.0) ok.1 in
    cut_clean (line_text y) (text_of ys) d.0 ∙ (λ i. (line_text y ∷ (ih i).0, (ih i).1))

from_forth : (xs ys : List Line) → length (parents_in xs) ≤ 32 → LinesOk xs ys → read_from xs (map line_text ys) [] ≡ Ok (xs ++ ys)
unfolding read_from
from_forth xs [] few ok = ap Ok (sym (append-nil xs))
from_forth xs (y ∷ ys) few ok =
    let d = tidy_line (parents_in xs) (count_in xs) y few ok.0 in
    let ih = from_forth (xs ++ y ∷ []) ys (nodes_more xs y few ok.0) ok.1 in
    cond-false (ltb 120 (length (line_text y))) _ _ (le-ltb 120 (length (line_text y)) d.1)
    ∙ ap (λ r. then (lined (length xs + 1) r) (λ x. read_from (xs ++ x ∷ []) (map line_text ys) [])) (line_forth (parents_in xs) (count_in xs) y few ok.0)
    ∙ ih ∙ ap Ok (append_assoc xs (y ∷ []) ys)

-- there are at most 96 lines, of at most 121 bytes
text_short : (xs ys : List Line) → length (parents_in xs) ≤ 32 → count_in xs ≤ 64 → LinesOk xs ys → length (text_of ys) + 121 * (length (nodes_in xs) + count_in xs) ≤ 11616
text_short xs [] few rules ok = omega (arith, length-map (nodes_in xs) (λ x. x.parent))
text_short xs (y ∷ ys) few rules ok =
    let d = tidy_line (parents_in xs) (count_in xs) y few ok.0 in
    let long = d.1 in
    let n : length (nodes_in (xs ++ y ∷ [])) ≡ length (nodes_in xs) + of_node y = ap length (nodes_push xs y) ∙ length-append (nodes_in xs) (nodes_in (y ∷ [])) in
    let m : count_in (xs ++ y ∷ []) ≡ count_in xs + of_rule y = ap length (rules_push xs y) ∙ length-append (rules_in xs) (rules_in (y ∷ [])) in
    let room = rule_room_lem (parents_in xs) (count_in xs) y rules ok.0 in
    let ih = text_short (xs ++ y ∷ []) ys (nodes_more xs y few ok.0) (omega arith) ok.1 in
    omega (arith, length-append (line_text y) (10 ∷ text_of ys), one_line y)

text_forth : (ys : List Line) → LinesOk [] ys → read_text (text_of ys) ≡ Ok ys
unfolding read_text
text_forth ys ok =
    let short = text_short [] ys (omega arith) (omega arith) ok in
    cond-false (ltb 65536 (length (text_of ys))) _ _ (le-ltb 65536 (length (text_of ys)) (omega arith))
    ∙ ap (λ (p : List (List ℕ) × List ℕ). read_from [] p.0 p.1) (cut_text [] ys (omega arith) ok)
    ∙ from_forth [] ys (omega arith) ok

-- the fault that is named is the first

abbrev Cleans : List (List ℕ) → Type 0
Cleans [] = Unit {0}
Cleans (l ∷ ls) = (clean l ≡ true) × Cleans ls

cleans_onto : (c : ℕ) (p : List (List ℕ) × List ℕ) → not (eqb c 10) ≡ true → Cleans p.0 × (clean p.1 ≡ true) → Cleans (onto c p).0 × (clean (onto c p).1 ≡ true)
cleans_onto c ([], tail) no_feed h = (tt, and_from (not (eqb c 10)) (clean tail) no_feed h.1)
cleans_onto c (l ∷ ls, tail) no_feed h = ((and_from (not (eqb c 10)) (clean l) no_feed h.0.0, h.0.1), h.1)

cut_cleans : (t : List ℕ) → Cleans (lines_of t).0 × (clean (lines_of t).1 ≡ true)
cut_cleans [] = (tt, refl)
cut_cleans (c ∷ cs) = go (eqb c 10) refl (cut_cleans cs)
  where
    go : (b : Bool) → eqb c 10 ≡ b → Cleans (lines_of cs).0 × (clean (lines_of cs).1 ≡ true)
        → Cleans (cond b ([] ∷ (lines_of cs).0, (lines_of cs).1) (onto c (lines_of cs))).0 × (clean (cond b ([] ∷ (lines_of cs).0, (lines_of cs).1) (onto c (lines_of cs))).1 ≡ true)
    go true e ih = ((refl, ih.0), ih.1)
    go false e ih = cleans_onto c (lines_of cs) (not_from_false (eqb c 10) e) ih

len_clean : (l rest : List ℕ) → clean l ≡ true → line_len rest ≡ 0 → line_len (l ++ rest) ≡ length l
len_clean [] rest h none = none
len_clean (c ∷ cs) rest h none =
    let p = and_parts (not (eqb c 10)) (clean cs) h in
    cond-false (eqb c 10) 0 _ (not-true (eqb c 10) p.0) ∙ ap suc (len_clean cs rest p.1 none)

abbrev Stops : List Line → List ℕ → Fault → Type 0
Stops xs t f =
    (ys : List Line) × (l : List ℕ) × (rest : List ℕ) × (t ≡ text_of ys ++ (l ++ rest)) × (line_len (l ++ rest) ≡ length l) × LinesOk xs ys × (f.line ≡ length (xs ++ ys) + 1) × AtFault (xs ++ ys) l rest f

here : (xs : List Line) (l rest : List ℕ) (f : Fault) → clean l ≡ true → line_len rest ≡ 0 → f.line ≡ length xs + 1 → AtFault xs l rest f → Stops xs (l ++ rest) f
here xs l rest f tidy none e at =
    ([], l, rest, refl, len_clean l rest tidy none, tt, e ∙ ap (λ (z : List Line). length z + 1) (sym (append-nil xs)), subst (λ z. AtFault z l rest f) (sym (append-nil xs)) at)

from_first : (xs : List Line) (ls : List (List ℕ)) (tail : List ℕ) (f : Fault) → Cleans ls → clean tail ≡ true → read_from xs ls tail ≡ Err f → Stops xs (join ls tail) f
unfolding read_from
from_first xs [] [] f tidy end h = cc
from_first xs [] (c ∷ tail) f tidy end h =
    let is = sym (same_err h) in
    subst (λ t. Stops xs t f) (append-nil (c ∷ tail))
    (here xs (c ∷ tail) [] f end refl (ap (λ (g : Fault). g.line) is) (inl (ap (λ (g : Fault). g.word) is, ap (λ (g : Fault). g.cause) is, inr refl)))
from_first xs (l ∷ ls) tail f tidy end h =
    go (ltb 120 (length l)) refl (line_of (parents_in xs) (count_in xs) l) refl (λ x e. from_first (xs ++ x ∷ []) ls tail f tidy.1 end e) h
  where
    go : (b : Bool) → ltb 120 (length l) ≡ b → (r : Result Line LineFault) → line_of (parents_in xs) (count_in xs) l ≡ r
        → ((x : Line) → read_from (xs ++ x ∷ []) ls tail ≡ Err f → Stops (xs ++ x ∷ []) (join ls tail) f)
        → cond b (lined (length xs + 1) (Err broken)) (then (lined (length xs + 1) r) (λ x. read_from (xs ++ x ∷ []) ls tail)) ≡ Err f → Stops xs (l ++ (10 ∷ join ls tail)) f
    go true eb r er ih h =
        let is = sym (same_err h) in
        here xs l (10 ∷ join ls tail) f tidy.0 refl (ap (λ (g : Fault). g.line) is) (inl (ap (λ (g : Fault). g.word) is, ap (λ (g : Fault). g.cause) is, inl (ltb-true 120 (length l) eb)))
    go false eb (Err e) er ih h =
        let is = sym (same_err h) in
        let word : f.word ≡ e.word = ap (λ (g : Fault). g.word) is in
        let cause : f.cause ≡ e.cause = ap (λ (g : Fault). g.cause) is in
        let same : e ≡ record { word = f.word; cause = f.cause } = λ i. record { word = sym word i; cause = sym cause i } in
        here xs l (10 ∷ join ls tail) f tidy.0 refl (ap (λ (g : Fault). g.line) is)
        (inr (ltb-false 120 (length l) eb, omega arith, er ∙ ap Err same, subst (Begun (parents_in xs) (count_in xs) l) (sym word) (line_first (parents_in xs) (count_in xs) l e er)))
    go false eb (Ok x) er ih h =
        let k = line_back (parents_in xs) (count_in xs) l x er in
        let s = ih x h in
        let assoc = append_assoc xs (x ∷ []) s.0 in (
          x ∷ s.0,
          s.1,
          s.2,
          (λ i. k.0 i ++ (10 ∷ s.3 i)) ∙ sym (append_assoc (line_text x) (10 ∷ text_of s.0) (s.1 ++ s.2)),
          s.4,
          (k.1, s.5),
          s.6 ∙ ap (λ (z : List Line). length z + 1) assoc,
          subst (λ z. AtFault z s.1 s.2 f) assoc s.7,
        )

text_first : (t : List ℕ) (f : Fault) → read_text t ≡ Err f → length t ≤ 65536 → Follows t f
unfolding read_text
text_first t f h fits =
    let s = from_first [] (lines_of t).0 (lines_of t).1 f (cut_cleans t).0 (cut_cleans t).1 (sym (cond-false (ltb 65536 (length t)) _ _ (le-ltb 65536 (length t) fits)) ∙ h) in
    (s.0, s.1, s.2, sym (join_cut t) ∙ s.3, s.4, s.5, s.6, s.7)

-- the same, of what the reader answers

pub is_canonical : (t : List ℕ) (r : Result (Policy AnyMeter) PolicyFault) → Answered t r → Canonical t r
is_canonical t r a = go (read_text t) refl r a
  where
    go : (q : Result (List Line) Fault) → read_text t ≡ q → (r : Result (Policy AnyMeter) PolicyFault) → AnsweredBy q r → Canonical t r
    go (Ok ys) e (Ok p) a = let b = text_back t ys e in (ys, b.0, b.1, a)
    go (Err g) e (Ok p) a = absurd a
    go q e (Err x) a = tt

pub is_written : (t : List ℕ) (r : Result (Policy AnyMeter) PolicyFault) (ys : List Line) → Answered t r → t ≡ text_of ys → LinesOk [] ys → Gives ys r
is_written t r ys a e ok = go r (subst (λ q. AnsweredBy q r) (ap read_text e ∙ text_forth ys ok) a)
  where
    go : (r : Result (Policy AnyMeter) PolicyFault) → AnsweredBy (Ok ys) r → Gives ys r
    go (Ok p) a = a
    go (Err Memory) a = tt
    go (Err (At f)) a = a

pub is_first : (t : List ℕ) (r : Result (Policy AnyMeter) PolicyFault) → Answered t r → First t r
is_first t r a = go (read_text t) refl r a
  where
    go : (q : Result (List Line) Fault) → read_text t ≡ q → (r : Result (Policy AnyMeter) PolicyFault) → AnsweredBy q r → First t r
    go q e (Ok p) a = tt
    go q e (Err Memory) a = tt
    go (Ok ys) e (Err (At f)) a = absurd a
    go (Err g) e (Err (At f)) a = text_first t f (e ∙ ap Err (sym a))

pub is_policy : (t : List ℕ) (ys : List Line) (p : Policy AnyMeter) → read_text t ≡ Ok ys → Built ys p → Answered t (Ok p)
is_policy t ys p e built = subst (λ q. AnsweredBy q (Ok p)) (sym e) built

pub is_fault : (t : List ℕ) (f : Fault) → read_text t ≡ Err f → Answered t (Err (At f))
is_fault t f e = subst (λ q. AnsweredBy q (Err (At f))) (sym e) refl
