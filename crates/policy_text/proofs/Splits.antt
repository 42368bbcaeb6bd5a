-- The lines of a text one by one, as the reader takes them and the policy grows.
-- Kept: what the reader's loop keeps, of the text, the policy so far, the number of its lines, and what is left of the text
-- Assumes nothing.
use Rattle.std.proofs.Common.{◌≡◌, ℕ, suc, ◌+◌, ◌<◌, ◌≤◌, Bool, true, false, Bor, cond, ◌||◌, eqb, ltb, leb, List, [], ◌∷◌, ◌++◌, map, length, take, drop, Some, Ok, Err, vec_items, MatchOption, Option, Result, subst, sym, refl, ap, ◌∙◌, ⊎_elim, inl, inr, append-nil, append_assoc, add-one, arith, MatchResult, length-append, min}
use Rattle.std.proofs.lemmas.List.{nil_from_length, length_push, take_at, drop_at, length-take-le, length-drop, length-map, map_push}
use denote.Param.Members.{Mut}
use Rattle.std.specs.declared.iter.Enumerate.{Enumerate}
use Rattle.std.specs.declared.slice.SplitInclusive.{SplitInclusive}
use Rattle.std.specs.Fn.{ComputesKey}
use Rattle.std.specs.Iterator.{Yields}
use Rattle.std.specs.Iterator.Adapters.{enumerate_source, enumerate_count, enumerate_steps}
use Rattle.std.specs.Slice.Iter.{split_inclusive_rest, split_inclusive_callee}
use Rattle.std.specs.List.{IsFirstMatchOrLen, position_or_len}
use Rattle.std.proofs.lemmas.List.Sums.{position_or_len_is}
use Rattle.std.proofs.lemmas.List.Recursion.{is_position_or_len}
use Rattle.std.proofs.lemmas.Bool.{cases_lt, cond-true, cond-false, or_left, or_right, or_from, or_parts, le-leb, lt-leb, lt-ltb, le-ltb, leb-false, eqb-true}
use Rattle.kinds.specs.declared.profiles.AnyMeter.{AnyMeter}
use Rattle.kinds.specs.declared.profiles.Profile.{Profile}
use Rattle.policy.specs.declared.rules.Rule as rules
use Rattle.policy.specs.declared.policies.Policy.{Policy}
use Rattle.policy.specs.Policies.{NodeAdded, RuleAdded}
use Rattle.policy_words.specs.Words.{then}
use Rattle.policy_words.proofs.Readings.{then_ok, then_then, ok_cond, same_ok}
use Rattle.policy_text.specs.declared.lines.LineFault.{LineFault}
use Rattle.policy_text.specs.declared.lines.NodeLine.{NodeLine}
use Rattle.policy_text.specs.declared.lines.Line.{Line}
use Rattle.policy_text.specs.declared.lines.Line.TheVariants.{Node, Rule}
use Rattle.policy_text.specs.declared.reader.Fault.{Fault}
use Rattle.policy_text.specs.Lines.{line_of}
use Rattle.policy_text.specs.Texts.{LineOk}
use Rattle.policy_text.specs.Policies.{lined, broken, nodes_in, rules_in, parents_in, count_in, onto, lines_of, read_from, read_after, line_len, first_by, first_line, IsFirstLine, step_of, Worth, worth_of, worth_in, Sells, rule_worth, Built, Grown}
use Rattle.policy_text.proofs.Written.{line_back}

-- a line ends at the first line feed
line_position : (t : List ℕ) → line_len t ≡ position_or_len (λ b. eqb b 10) t
line_position t = is_position_or_len line_len (λ b. eqb b 10) refl (λ c cs. turned (eqb c 10) (line_len cs)) t
  where
    turned : (b : Bool) (k : ℕ) → cond b 0 (suc k) ≡ cond b 0 (1 + k)
    turned true k = refl
    turned false k = omega arith

cut_some : (t : List ℕ) → line_len t < length t → lines_of t ≡ (take (line_len t) t ∷ (lines_of (drop (suc (line_len t)) t)).0, (lines_of (drop (suc (line_len t)) t)).1)
cut_some [] h = absurd (omega arith)
cut_some (c ∷ cs) h = go (eqb c 10) (λ l. cut_some cs l) h
  where
    go : (b : Bool) → (line_len cs < length cs → lines_of cs ≡ (take (line_len cs) cs ∷ (lines_of (drop (suc (line_len cs)) cs)).0, (lines_of (drop (suc (line_len cs)) cs)).1))
        → cond b 0 (suc (line_len cs)) < suc (length cs)
        → cond b ([] ∷ (lines_of cs).0, (lines_of cs).1) (onto c (lines_of cs))
        ≡ (take (cond b 0 (suc (line_len cs))) (c ∷ cs) ∷ (lines_of (drop (suc (cond b 0 (suc (line_len cs)))) (c ∷ cs))).0, (lines_of (drop (suc (cond b 0 (suc (line_len cs)))) (c ∷ cs))).1)
    go true ih h = refl
    go false ih h = ap (onto c) (ih (omega arith))

cut_none : (t : List ℕ) → length t ≤ line_len t → lines_of t ≡ ([], t)
cut_none [] h = refl
cut_none (c ∷ cs) h = go (eqb c 10) (λ l. cut_none cs l) h
  where
    go : (b : Bool) → (length cs ≤ line_len cs → lines_of cs ≡ ([], cs)) → suc (length cs) ≤ cond b 0 (suc (line_len cs)) → cond b ([] ∷ (lines_of cs).0, (lines_of cs).1) (onto c (lines_of cs)) ≡ ([], c ∷ cs)
    go true ih h = absurd (omega arith)
    go false ih h = ap (onto c) (ih (omega arith))

pub first_ok : (n : ℕ) (t : List ℕ) → n < length t → n ≤ 120 → first_by n t ≡ Ok (take n t, drop (n + 1) t)
first_ok n t h k = cond-false (leb (length t) n || ltb 120 n) _ _ (or_from _ _ (lt-leb (length t) n h) (le-ltb 120 n k))

first_long : (n : ℕ) (t : List ℕ) → 120 < n → first_by n t ≡ Err broken
first_long n t h = cond-true (leb (length t) n || ltb 120 n) _ _ (or_right (leb (length t) n) (ltb 120 n) (lt-ltb 120 n h))

first_none : (n : ℕ) (t : List ℕ) → length t ≤ n → first_by n t ≡ Err broken
first_none n t h = cond-true (leb (length t) n || ltb 120 n) _ _ (or_left (leb (length t) n) (ltb 120 n) (le-leb (length t) n h))

-- a first line with its end has no line feed before that

pub same_front : (p q : List ℕ) → p ++ 10 ∷ [] ≡ q ++ 10 ∷ [] → length p ≡ length q
same_front p q e = omega (arith, ap length e, length_push p 10, length_push q 10)

end_near : (p r : List ℕ) → line_len (p ++ 10 ∷ r) ≤ length p
end_near [] r = omega arith
end_near (c ∷ cs) r = let h = end_near cs r in
    elim (eqb c 10) as (λ b. cond b 0 (suc (line_len (cs ++ 10 ∷ r))) ≤ suc (length cs)) [ true ↦ omega arith | false ↦ omega arith ]

front_is : (l after : List ℕ) → line_len (l ++ after) + 1 ≡ length l → l ≡ take (line_len (l ++ after)) l ++ 10 ∷ []
front_is [] after h = absurd (omega arith)
front_is (c ∷ cs) after h = go (eqb c 10) refl (λ k. front_is cs after k) h
  where
    go : (b : Bool) → eqb c 10 ≡ b → (line_len (cs ++ after) + 1 ≡ length cs → cs ≡ take (line_len (cs ++ after)) cs ++ 10 ∷ [])
        → cond b 0 (suc (line_len (cs ++ after))) + 1 ≡ suc (length cs) → c ∷ cs ≡ take (cond b 0 (suc (line_len (cs ++ after)))) (c ∷ cs) ++ 10 ∷ []
    go true e ih k =
        let none : cs ≡ [] = nil_from_length cs (omega arith) in
        (λ i. eqb-true c 10 e i ∷ none i)
    go false e ih k = ap (λ l. c ∷ l) (ih (omega arith))

pub piece_ok : (l p after : List ℕ) → l ≡ p ++ 10 ∷ [] → length p ≤ 120 → IsFirstLine l after → first_line (l ++ after) ≡ Ok (p, after)
piece_ok l p after is fits first =
    ⊎_elim
    (λ (h : line_len (l ++ after) + 1 ≡ length l).
    let t = l ++ after in
    let n = line_len t in
    let long : length l ≡ length p + 1 = ap length is ∙ length_push p 10 in
    let at : length p ≡ n = omega arith in
    let whole : t ≡ p ++ (10 ∷ after) = ap (λ x. x ++ after) is ∙ append_assoc p (10 ∷ []) after in
    let inside : n < length t = omega (arith, length-append l after) in
    first_ok n t inside (omega arith)
    ∙ (λ i. Ok ((ap (take n) whole ∙ take_at p (10 ∷ after) n at) i, drop_at l after (n + 1) (sym h) i)))
    (λ h. absurd (omega (arith, h.1, end_near p [], ap length is, length_push p 10, ap line_len is)))
    first

pub piece_err : (l after : List ℕ) → ((p : List ℕ) → l ≡ p ++ 10 ∷ [] → 120 < length p) → IsFirstLine l after → first_line (l ++ after) ≡ Err broken
piece_err l after bad first =
    ⊎_elim
    (λ (h : line_len (l ++ after) + 1 ≡ length l).
    let n = line_len (l ++ after) in
    first_long n (l ++ after) (omega (arith, bad (take n l) (front_is l after h), length-take-le n l (omega arith))))
    (λ h.
    let same : l ++ after ≡ l = ap (λ x. l ++ x) h.0 ∙ append-nil l in
    first_none (line_len (l ++ after)) (l ++ after) (omega (arith, h.1, ap length same, ap line_len same)))
    first

-- what cutting a line says of it, by whether the line was cut

abbrev pub IsCut : List ℕ → Result (Bor (List ℕ)) LineFault → Type 0
IsCut l r = MatchResult r (λ p. (l ≡ p.now ++ 10 ∷ []) × (length p.now ≤ 120)) (λ e. (e ≡ broken) × ((p : List ℕ) → l ≡ p ++ 10 ∷ [] → 120 < length p))

pub cut_ok : (k : ℕ) (l : List ℕ) (r : Result (Bor (List ℕ)) LineFault) (p : Bor (List ℕ)) → IsCut l r → lined k r ≡ Ok p → (l ≡ p.now ++ 10 ∷ []) × (length p.now ≤ 120)
cut_ok k l (Ok q) p m h =
    let P : Bor (List ℕ) → Type 0 = λ p. (l ≡ p.now ++ 10 ∷ []) × (length p.now ≤ 120) in
    subst P (same_ok h) m
cut_ok k l (Err e) p m h = cc

pub cut_err : {A : Type 0} (k : ℕ) (l : List ℕ) (r : Result (Bor (List ℕ)) LineFault) (f : Fault) → IsCut l r → lined k r ≡ Err f → ((p : List ℕ) → l ≡ p ++ 10 ∷ [] → 120 < length p) × (lined {A = A} k (Err broken) ≡ Err f)
cut_err k l (Ok q) f m h = cc
cut_err {A} k l (Err e) f m h =
    let same : ◌≡◌ {A = Fault} (record { line = k; word = e.word; cause = e.cause }) f = cc in
    (m.1, ap (λ (x : LineFault). lined {A = A} k (Err x)) (sym m.0) ∙ ap Err same)

pub match_step : (r : Result Line Fault) (s : Result (Line × List ℕ) Fault) (after : List ℕ) → s ≡ then r (λ x. Ok (x, after)) → MatchResult r (λ x. s ≡ Ok (x, after)) (λ e. s ≡ Err e)
match_step (Ok x) s after h = h
match_step (Err e) s after h = h

pub step_piece : (k : ℕ) (ps : List ℕ) (n : ℕ) (l p after : List ℕ) → l ≡ p ++ 10 ∷ [] → length p ≤ 120 → IsFirstLine l after
    → step_of k ps n (l ++ after) ≡ then (lined k (line_of ps n p)) (λ x. Ok (x, after))
unfolding step_of
step_piece k ps n l p after is fits first =
    ap (λ r. then (lined k r) (λ q. then (lined k (line_of ps n q.0)) (λ x. Ok (x, q.1)))) (piece_ok l p after is fits first)

pub step_broken : (k : ℕ) (ps : List ℕ) (n : ℕ) (l after : List ℕ) → ((p : List ℕ) → l ≡ p ++ 10 ∷ [] → 120 < length p) → IsFirstLine l after
    → step_of k ps n (l ++ after) ≡ lined k (Err broken)
unfolding step_of
step_broken k ps n l after bad first =
    ap (λ r. then (lined k r) (λ q. then (lined k (line_of ps n q.0)) (λ x. Ok (x, q.1)))) (piece_err l after bad first)

-- what the library cuts off is such a line
pub first_cut : (l after : List ℕ) (i : ℕ) → length l ≡ min (i + 1) (length (l ++ after)) → IsFirstMatchOrLen (λ b. eqb b 10) (l ++ after) i → IsFirstLine l after
first_cut l after i long is =
    let t = l ++ after in
    let p : ℕ → Bool = λ b. eqb b 10 in
    let all : length t ≡ length l + length after = length-append l after in
    ⊎_elim
    (λ (h : i < length t).
    let at : line_len t ≡ i = line_position t ∙ position_or_len_is p t i 0 (omega arith) (λ k b. is.0 k 0 (omega arith) b) (λ b. is.1 b 0) in
    inl (omega (arith, at, long)))
    (λ (h : length t ≤ i).
    let none : after ≡ [] = nil_from_length after (omega (arith, long, all)) in
    let at : line_len t ≡ length t = line_position t ∙ position_or_len_is p t (length t) 0 (omega arith) (λ k b. is.0 k 0 (omega arith) (omega arith)) (λ b. absurd (omega arith)) in
    let same : t ≡ l = ap (λ x. l ++ x) none ∙ append-nil l in
    inr (none, ap line_len (sym same) ∙ at ∙ ap length same))
    (cases_lt i (length t))

-- what the library says of a step of `split_inclusive`
abbrev pub Cut : {F : Type 0} (g : Mut F (Bor ℕ × Unit {0}) Bool) → SplitInclusive ℕ F → Option (Bor (List ℕ)) → SplitInclusive ℕ F → Type 0
Cut g s r t =
    MatchOption r ((length (split_inclusive_rest s) ≡ 0) × (t ≡ s))
    (λ x. (split_inclusive_rest s ≡ x.now ++ split_inclusive_rest t)
    × ((i : ℕ) × (length x.now ≡ min (i + 1) (length (split_inclusive_rest s)))
    × ((p : ℕ → Bool) → ComputesKey g p (split_inclusive_callee s) → ComputesKey g p (split_inclusive_callee t) × IsFirstMatchOrLen p (split_inclusive_rest s) i))
    × (0 < length (split_inclusive_rest s)))

abbrev pub is_end : ℕ → Bool
is_end b = eqb b 10

-- what each step keeps, all steps keep
keeps_yields : {S A : Type 0} (steps : S → Option A → S → Type 0) (C : S → Type 0) → ((s : S) (x : A) (t : S) → steps s (Some x) t → C s → C t)
    → (s : S) (xs : List A) (t : S) → Yields steps s xs t → C s → C t
keeps_yields steps C next s [] t y h = subst C y h
keeps_yields steps C next s (x ∷ xs) t y h = keeps_yields steps C next y.0 xs t y.2 (next s x y.0 y.1 h)

pub ends_kept : {F : Type 0} (g : Mut F (Bor ℕ × Unit {0}) Bool) (s : Enumerate (SplitInclusive ℕ F)) (xs : List (ℕ × Bor (List ℕ))) (t : Enumerate (SplitInclusive ℕ F))
    → Yields (enumerate_steps (Cut g)) s xs t → ComputesKey g is_end (split_inclusive_callee (enumerate_source s)) → ComputesKey g is_end (split_inclusive_callee (enumerate_source t))
ends_kept g s xs t y h =
    keeps_yields (enumerate_steps (Cut g)) (λ s. ComputesKey g is_end (split_inclusive_callee (enumerate_source s))) (λ s x t k h. (k.0.1.2 is_end h).0) s xs t y h

-- a step takes the first line of what is left, with the number of lines before it
pub record Turn (n m i : ℕ) (before l after : List ℕ) : Type 0 where
  pub first : IsFirstLine l after
  pub cut : before ≡ l ++ after
  pub at : i ≡ n
  pub next : m ≡ n + 1
  pub some : 0 < length before

pub turn : {F : Type 0} (g : Mut F (Bor ℕ × Unit {0}) Bool) (s t : Enumerate (SplitInclusive ℕ F)) (i : ℕ) (l : Bor (List ℕ)) → enumerate_steps (Cut g) s (Some (i, l)) t
    → ComputesKey g is_end (split_inclusive_callee (enumerate_source s))
    → Turn (enumerate_count s) (enumerate_count t) i (split_inclusive_rest (enumerate_source s)) l.now (split_inclusive_rest (enumerate_source t))
turn g s t i l k h =
    let after = split_inclusive_rest (enumerate_source t) in
    let P : List ℕ → Type 0 = λ b. (length l.now ≡ min (k.0.1.0 + 1) (length b)) × IsFirstMatchOrLen is_end b k.0.1.0 in
    let q : P (l.now ++ after) = subst P k.0.0 (k.0.1.1, (k.0.1.2 is_end h).1) in
    record { first = first_cut l.now after k.0.1.0 q.0 q.1; cut = k.0.0; at = k.1; next = k.2; some = k.0.2 }

-- a text that goes on is read by its first line, and then what follows
pub step_is : (xs : List Line) (t : List ℕ) → 0 < length t
    → read_after xs t ≡ then (step_of (length xs + 1) (parents_in xs) (count_in xs) t) (λ p. read_after (xs ++ p.0 ∷ []) p.1)
unfolding read_from step_of
step_is xs [] h = absurd (omega arith)
step_is xs (c ∷ cs) h =
    let t = c ∷ cs in
    let n = line_len t in
    let N = length xs + 1 in
    let on : Line × List ℕ → Result (List Line) Fault = λ p. read_after (xs ++ p.0 ∷ []) p.1 in
    let st : Result (List ℕ × List ℕ) LineFault → Result (Line × List ℕ) Fault = λ r. then (lined N r) (λ p. then (lined N (line_of (parents_in xs) (count_in xs) p.0)) (λ x. Ok (x, p.1))) in
    ⊎_elim
    (λ (some : n < length t).
    let s = cut_some t some in
    let long : length (take n t) ≡ n = length-take-le n t (omega arith) in
    let l : Result Line Fault = lined N (line_of (parents_in xs) (count_in xs) (take n t)) in
    let rest = drop (suc n) t in
    let body : Result (List Line) Fault = then l (λ x. read_from (xs ++ x ∷ []) (lines_of rest).0 (lines_of rest).1) in
    ap (λ (p : List (List ℕ) × List ℕ). read_from xs p.0 p.1) s
    ∙ ap (λ m. cond (ltb 120 m) (lined N (Err broken)) body) long
    ∙ ⊎_elim
    (λ (big : 120 < n). cond-true (ltb 120 n) _ _ (lt-ltb 120 n big) ∙ sym (ap (λ r. then (st r) on) (first_long n t big)))
    (λ fits. cond-false (ltb 120 n) (lined N (Err broken)) body (le-ltb 120 n fits)
    ∙ sym (then_then l (λ x. Ok (x, rest)) on)
    ∙ ap (λ d. then (then l (λ x. Ok (x, d))) on) (ap (λ k. drop k t) (sym (add-one n)))
    ∙ sym (ap (λ r. then (st r) on) (first_ok n t some fits)))
    (cases_lt 120 n))
    (λ none.
    ap (λ (p : List (List ℕ) × List ℕ). read_from xs p.0 p.1) (cut_none t none)
    ∙ sym (ap (λ r. then (st r) on) (first_none n t none)))
    (cases_lt n (length t))

pub lined_ok : {A : Type 0} (n : ℕ) (r : Result A LineFault) (a : A) → lined n r ≡ Ok a → r ≡ Ok a
lined_ok n (Ok x) a h = ap Ok (same_ok h)
lined_ok n (Err e) a h = cc

-- each step leaves less
pub step_less : (k : ℕ) (ps : List ℕ) (n : ℕ) (t : List ℕ) (p : Line × List ℕ) → step_of k ps n t ≡ Ok p → length p.1 < length t
unfolding step_of
step_less k ps n t p h =
    let a = then_ok (lined k (first_line t)) _ p h in
    let f = lined_ok k (first_line t) a.0 a.1 in
    let b = ok_cond (leb (length t) (line_len t) || ltb 120 (line_len t)) _ broken a.0 f in
    let o = or_parts (leb (length t) (line_len t)) (ltb 120 (line_len t)) b.0 in
    let d = then_ok (lined k (line_of ps n a.0.0)) _ p a.2 in
    let is1 : a.0.1 ≡ p.1 = ap (λ (q : Line × List ℕ). q.1) (same_ok d.2) in
    let is2 : drop (line_len t + 1) t ≡ a.0.1 = ap (λ (q : List ℕ × List ℕ). q.1) (same_ok b.1) in
    omega (arith, leb-false (length t) (line_len t) o.0, length-drop (line_len t + 1) t, ap length is1, ap length is2)

-- the line that was read may stand there
pub step_fits : (k : ℕ) (ps : List ℕ) (n : ℕ) (t : List ℕ) (p : Line × List ℕ) → step_of k ps n t ≡ Ok p → LineOk ps n p.0
unfolding step_of
step_fits k ps n t p h =
    let a = then_ok (lined k (first_line t)) _ p h in
    let d = then_ok (lined k (line_of ps n a.0.0)) _ p a.2 in
    let is : d.0 ≡ p.0 = ap (λ (q : Line × List ℕ). q.0) (same_ok d.2) in
    (line_back ps n a.0.0 p.0 (lined_ok k (line_of ps n a.0.0) d.0 d.1 ∙ ap Ok is)).1

pub nodes_push : (xs : List Line) (y : Line) → nodes_in (xs ++ y ∷ []) ≡ nodes_in xs ++ nodes_in (y ∷ [])
nodes_push [] y = refl
nodes_push (Node x ∷ xs) y = ap (λ l. x ∷ l) (nodes_push xs y)
nodes_push (Rule r ∷ xs) y = nodes_push xs y

pub rules_push : (xs : List Line) (y : Line) → rules_in (xs ++ y ∷ []) ≡ rules_in xs ++ rules_in (y ∷ [])
rules_push [] y = refl
rules_push (Node x ∷ xs) y = rules_push xs y
rules_push (Rule r ∷ xs) y = ap (λ l. r ∷ l) (rules_push xs y)

-- a policy with one line more

pub node_grown : (p q : Policy AnyMeter) (x : NodeLine) (n up : ℕ) (m : AnyMeter) (u : Unit {0}) → up ≡ x.parent → Sells x.profile m → NodeAdded p q n up m (Ok u) → Grown p q (Node x)
node_grown p q x n up m u is sold added ys built =
    let nodes : nodes_in (ys ++ Node x ∷ []) ≡ nodes_in ys ++ x ∷ [] = nodes_push ys (Node x) in
    let rules : rules_in (ys ++ Node x ∷ []) ≡ rules_in ys = rules_push ys (Node x) ∙ append-nil (rules_in ys) in
    let parent_of : NodeLine → ℕ = λ y. y.parent in
    let worth : NodeLine → Worth = λ y. worth_in y.profile in
    record {
      parents = added.1 ∙ (λ i. built.parents i ++ is i ∷ []) ∙ sym (ap (map parent_of) nodes ∙ map_push parent_of (nodes_in ys) x);
      meters =
          ap (map worth_of) added.2 ∙ map_push worth_of (vec_items p.meters) m ∙ (λ i. built.meters i ++ sold i ∷ [])
          ∙ sym (ap (map worth) nodes ∙ map_push worth (nodes_in ys) x);
      rules = ap (map (rule_worth worth_of)) added.3 ∙ built.rules ∙ sym (ap (map (rule_worth worth_in)) rules);
    }

pub rule_grown : (p q : Policy AnyMeter) (r : rules.Rule Profile) (up : ℕ) (m : AnyMeter) (u : Unit {0}) → up ≡ r.parent → Sells r.meter m → RuleAdded p q r.selector up m (Ok u) → Grown p q (Rule r)
rule_grown p q r up m u is sold added ys built =
    let nodes : nodes_in (ys ++ Rule r ∷ []) ≡ nodes_in ys = nodes_push ys (Rule r) ∙ append-nil (nodes_in ys) in
    let more : rules_in (ys ++ Rule r ∷ []) ≡ rules_in ys ++ r ∷ [] = rules_push ys (Rule r) in
    let parent_of : NodeLine → ℕ = λ y. y.parent in
    let worth : NodeLine → Worth = λ y. worth_in y.profile in
    record {
      parents = added.1 ∙ built.parents ∙ sym (ap (map parent_of) nodes);
      meters = ap (map worth_of) added.2 ∙ built.meters ∙ sym (ap (map worth) nodes);
      rules =
          ap (map (rule_worth worth_of)) added.3 ∙ map_push (rule_worth worth_of) (vec_items p.rules) _
          ∙ (λ i. built.rules i ++ (r.selector, is i, sold i) ∷ []) ∙ sym (ap (map (rule_worth worth_in)) more ∙ map_push (rule_worth worth_in) (rules_in ys) r);
    }

-- a policy has the context of its lines
pub count_is : (ys : List Line) (p : Policy AnyMeter) → Built ys p → length (vec_items p.rules) ≡ count_in ys
count_is ys p built = sym (length-map (vec_items p.rules) (rule_worth worth_of)) ∙ ap length built.rules ∙ length-map (rules_in ys) (rule_worth worth_in)

abbrev pub Kept : List ℕ → Policy AnyMeter → ℕ → List ℕ → Type 0
Kept t p n rest =
    (xs : List Line) × Built xs p × (read_after xs rest ≡ read_after [] t) × (n ≡ length xs) × (n + length rest ≤ length t)
