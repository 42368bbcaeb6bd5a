-- What a number that passed its check is: each check of a word as a law of that word, and a profile by the checks of its words.
-- Within: a number that is such an amount; Fits: one that a check of the policy takes
-- Assumes nothing.
use Rattle.std.specs.Result.{result_and}
use Rattle.std.proofs.Common.{◌≡◌, ℕ, ◌+◌, ◌^◌, ◌<◌, ◌≤◌, true, cond, ◌&&◌, eqb, ltb, leb, List, length, Ok, Err, Result, sym, refl, ap, ◌∙◌, subst, arith}
use Rattle.std.proofs.lemmas.Bool.{cond-true, and_parts, leb-true, le-leb, eqb-true, eq-eqb}
use Rattle.kinds.specs.declared.profiles.Fault.{Fault}
use Rattle.kinds.specs.declared.profiles.Fault.TheVariants.{BadRate, BadDepth, PeakBelowCommitted}
use Rattle.kinds.specs.declared.profiles.Profile.{Profile}
use Rattle.kinds.specs.declared.profiles.Profile.TheVariants.{Vs, Lb, Tb, Sr, Tr}
use Rattle.kinds.specs.Making.{within, rate_of, loose_burst_of, gcra_terms, token_terms, single_terms, two_terms}
use Rattle.policy.specs.declared.rules.Refusal.{Refusal}
use Rattle.policy.specs.declared.rules.Refusal.TheVariants.{WrongNumber, UnknownParent, TooDeep}
use Rattle.policy.specs.Trees.{most_depth, depth_of}
use Rattle.policy.specs.Policies.{before, number_of, known_of, under_of}
use Rattle.policy_words.specs.declared.causes.Cause.{Cause}
use Rattle.policy_words.specs.Words.{then, stop, field, judged}
use Rattle.policy_words.specs.Texts.{word_on}
use Rattle.policy_words.specs.Laws.{Word}
use Rattle.policy_words.proofs.Readings.{then_ok, cond_ok, same_ok, Wrote, number_word}
use Rattle.policy_text.specs.declared.amounts.Amount.{Amount}
use Rattle.policy_text.specs.declared.amounts.Amount.TheVariants.{Rate, Tolerance, Burst, LooseBurst, Excess, Peak}
use Rattle.policy_text.specs.Amounts.{passed, check_of, ranged, amount_of}
use Rattle.policy_text.specs.Places.{placed}
use Rattle.policy_text.specs.Lines.{taken, number_word_of, under_word_of, known_word_of}
use Rattle.policy_text.specs.Texts.{ProfileOk}

pub err_ok : {A E : Type 0} (e : E) (a : A) → ◌≡◌ {A = Result A E} (Err e) (Ok a) → ⊥
err_ok e a h = cc

pub placed_ok : {A : Type 0} (n : ℕ) (r : Result A Cause) (a : A) → placed n r ≡ Ok a → r ≡ Ok a
placed_ok n (Ok x) a h = ap Ok (same_ok h)
placed_ok n (Err e) a h = absurd (err_ok _ a h)

-- one check behind another

pub before_ok : {X : Type 0} (r : Result ℕ Refusal) (x : Result X Refusal) (a : X) → before r x ≡ Ok a → (n : ℕ) × (r ≡ Ok n) × (x ≡ Ok a)
before_ok (Ok n) x a h = (n, refl, h)
before_ok (Err e) x a h = absurd (err_ok e a h)

pub ok_before : {X : Type 0} (r : Result ℕ Refusal) (x : Result X Refusal) (n : ℕ) → r ≡ Ok n → before r x ≡ x
ok_before r x n h = ap (λ y. before y x) h

-- a number and its check

abbrev pub Fits : {E : Type 0} → (ℕ → Result ℕ E) → ℕ → Type 0
Fits check v = (v < 10 ^ 13) × (check v ≡ Ok v)

-- a check answers with what it is given
abbrev Keeps : {E : Type 0} → (ℕ → Result ℕ E) → Type 0
Keeps check = (v n : ℕ) → check v ≡ Ok n → n ≡ v

-- the law of the words that such a check takes, whatever its fault becomes
judged_word : {E : Type 0} (turn : Result ℕ E → Result ℕ Cause) → ((r : Result ℕ E) (n : ℕ) → turn r ≡ Ok n → r ≡ Ok n) → ((n : ℕ) → turn (Ok n) ≡ Ok n)
    → (check : ℕ → Result ℕ E) → Keeps check → Word (judged (λ n. turn (check n))) word_on (Fits check)
judged_word {E} turn turn_ok ok_turn check keeps = record { back = λ t v rest h. back t (v, rest) h; forth = forth }
  where
    back : (t : List ℕ) (p : ℕ × List ℕ) → judged (λ n. turn (check n)) t ≡ Ok p → Wrote word_on (Fits check) t p
    back t p h =
        let n = then_ok (field t) (λ q. then (turn (check q.0)) (λ m. Ok (m, q.1))) p h in
        let c = then_ok (turn (check n.0.0)) (λ m. Ok (m, n.0.1)) p n.2 in
        let w = number_word.back t n.0.0 n.0.1 n.1 in
        let is = turn_ok (check n.0.0) c.0 c.1 in
        let kept = keeps n.0.0 c.0 is in
        let same : (n.0.0, n.0.1) ≡ p = ap (λ m. (m, n.0.1)) (sym kept) ∙ same_ok c.2 in
        subst (Wrote word_on (Fits check) t) same (w.0, (w.1, is ∙ ap Ok kept), w.2)

    forth : (v : ℕ) (rest : List ℕ) → Fits check v → stop rest ≡ true → judged (λ n. turn (check n)) (word_on v rest) ≡ Ok (v, rest)
    forth v rest h e =
        ap (λ r. then r (λ q. then (turn (check q.0)) (λ m. Ok (m, q.1)))) (number_word.forth v rest h.0 e)
        ∙ ap (λ r. then r (λ m. Ok (m, rest))) (ap turn h.1 ∙ ok_turn v)

-- the amounts

abbrev pub Within : Amount → ℕ → Type 0
Within a v = check_of a v ≡ Ok v

within_keeps : (low high v n : ℕ) (f : Fault) → within low high f v ≡ Ok n → n ≡ v
within_keeps low high v n f h = sym (same_ok (cond_ok (leb low v && leb v high) (Ok v) f n h).1)

and_pair : {X : Type 0} (r : Result ℕ Fault) (x : Result X Fault) (a : X) → result_and r x ≡ Ok a → (n : ℕ) × (r ≡ Ok n) × (x ≡ Ok a)
and_pair (Ok n) x a h = (n, refl, h)
and_pair (Err e) x a h = absurd (err_ok e a h)

amount_keeps : (a : Amount) → Keeps (check_of a)
amount_keeps Rate v n h = within_keeps 1 1000000000 v n BadRate h
amount_keeps Tolerance v n h = within_keeps 0 1000000000000 v n BadDepth h
amount_keeps Burst v n h = within_keeps 1 1000000000 v n BadDepth h
amount_keeps LooseBurst v n h = within_keeps 0 1000000000 v n BadDepth h
amount_keeps (Excess cbs) v n h = within_keeps 0 1000000000 v n BadDepth (cond_ok (leb 1 (cbs + v)) (loose_burst_of v) BadDepth n h).1
amount_keeps (Peak cir) v n h =
    let p = and_pair (rate_of v) (cond (leb cir v) (Ok v) (Err PeakBelowCommitted)) n h in
    sym (same_ok (cond_ok (leb cir v) (Ok v) PeakBelowCommitted n p.2).1)

and_ok : {X : Type 0} (a : Amount) (v : ℕ) (x : Result X Fault) (b : X) → result_and (check_of a v) x ≡ Ok b → Within a v × (x ≡ Ok b)
and_ok a v x b h = let p = and_pair (check_of a v) x b h in (p.1 ∙ ap Ok (amount_keeps a v p.0 p.1), p.2)

ok_and : {X : Type 0} (a : Amount) (v : ℕ) (x : Result X Fault) → Within a v → result_and (check_of a v) x ≡ x
ok_and a v x h = ap (λ r. result_and r x) h

-- a check that passes answers with the number
pub passed_within : (a : Amount) (v : ℕ) → passed (check_of a v) ≡ Ok tt → Within a v
passed_within a v h = go (check_of a v) refl h
  where
    go : (r : Result ℕ Fault) → check_of a v ≡ r → passed r ≡ Ok tt → check_of a v ≡ Ok v
    go (Ok n) e k = e ∙ ap Ok (amount_keeps a v n e)
    go (Err f) e k = absurd (err_ok f tt k)

within_high : (low high n : ℕ) (f : Fault) → within low high f n ≡ Ok n → n ≤ high
within_high low high n f h =
    leb-true n high (and_parts (leb low n) (leb n high) (cond_ok (leb low n && leb n high) (Ok n) f n h).0).1

-- the largest of all amounts is a tolerance
amount_high : (a : Amount) (v : ℕ) → Within a v → v ≤ 1000000000000
amount_high Rate v h = omega (arith, within_high 1 1000000000 v BadRate h)
amount_high Tolerance v h = within_high 0 1000000000000 v BadDepth h
amount_high Burst v h = omega (arith, within_high 1 1000000000 v BadDepth h)
amount_high LooseBurst v h = omega (arith, within_high 0 1000000000 v BadDepth h)
amount_high (Excess cbs) v h =
    omega (arith, within_high 0 1000000000 v BadDepth (cond_ok (leb 1 (cbs + v)) (loose_burst_of v) BadDepth v h).1)
amount_high (Peak cir) v h =
    omega (arith, within_high 1 1000000000 v BadRate (and_ok Rate v (cond (leb cir v) (Ok v) (Err PeakBelowCommitted)) v h).0)

pub amount_few : (a : Amount) (v : ℕ) → Within a v → v < 10 ^ 13
amount_few a v h = omega (arith, amount_high a v h)

ranged_ok : (r : Result ℕ Fault) (n : ℕ) → ranged r ≡ Ok n → r ≡ Ok n
ranged_ok (Ok x) n h = ap Ok (same_ok h)
ranged_ok (Err e) n h = absurd (err_ok _ n h)

pub amount_word : (a : Amount) → Word (amount_of (check_of a)) word_on (Within a)
unfolding amount_of
amount_word a =
    let w : Word (judged (λ n. ranged (check_of a n))) word_on (Fits (check_of a)) = judged_word (λ r. ranged r) ranged_ok (λ n. refl) (check_of a) (amount_keeps a) in
    record {
      back = λ t v rest h. let b = w.back t v rest h in (b.0, b.1.1, b.2);
      forth = λ v rest h e. w.forth v rest (amount_few a v h, h) e;
    }

pub amount_checked : (a : Amount) (t : List ℕ) (v : ℕ) (rest : List ℕ) → amount_of (check_of a) t ≡ Ok (v, rest) → Within a v
amount_checked a t v rest h = ((amount_word a).back t v rest h).1

-- amounts that can always follow
pub excess_one : (cbs : ℕ) → Within (Excess cbs) 1
excess_one cbs = cond-true (leb 1 (cbs + 1)) (loose_burst_of 1) (Err BadDepth) (le-leb 1 (cbs + 1) (omega arith))

pub peak_same : (cir : ℕ) → Within Rate cir → Within (Peak cir) cir
peak_same cir h =
    ok_and Rate cir (cond (leb cir cir) (Ok cir) (Err PeakBelowCommitted)) h ∙ cond-true (leb cir cir) (Ok cir) (Err PeakBelowCommitted) (le-leb cir cir (omega arith))

-- the numbers that the policy checks

taken_ok : (r : Result ℕ Refusal) (n : ℕ) → taken r ≡ Ok n → r ≡ Ok n
taken_ok (Ok x) n h = ap Ok (same_ok h)
taken_ok (Err e) n h = absurd (err_ok _ n h)

policy_word : (check : ℕ → Result ℕ Refusal) → Keeps check → Word (judged (λ n. taken (check n))) word_on (Fits check)
policy_word check keeps = judged_word (λ r. taken r) taken_ok (λ n. refl) check keeps

pub number_keeps : (ps : List ℕ) (v n : ℕ) → number_of ps v ≡ Ok n → n ≡ v
number_keeps ps v n h = sym (same_ok (cond_ok (eqb v (length ps + 1)) (Ok v) WrongNumber n h).1)

known_keeps : (ps : List ℕ) (v n : ℕ) → known_of ps v ≡ Ok n → n ≡ v
known_keeps ps v n h = sym (same_ok (cond_ok (leb v (length ps)) (Ok v) UnknownParent n h).1)

under_keeps : (ps : List ℕ) (v n : ℕ) → under_of ps v ≡ Ok n → n ≡ v
under_keeps ps v n h =
    let b = before_ok (known_of ps v) (cond (ltb (depth_of ps v) most_depth) (Ok v) (Err TooDeep)) n h in
    sym (same_ok (cond_ok (ltb (depth_of ps v) most_depth) (Ok v) TooDeep n b.2).1)

pub node_number_word : (ps : List ℕ) → Word (number_word_of ps) word_on (Fits (number_of ps))
unfolding number_word_of
node_number_word ps = policy_word (number_of ps) (number_keeps ps)

pub under_word : (ps : List ℕ) → Word (under_word_of ps) word_on (Fits (under_of ps))
unfolding under_word_of
under_word ps = policy_word (under_of ps) (under_keeps ps)

pub known_word : (ps : List ℕ) → Word (known_word_of ps) word_on (Fits (known_of ps))
unfolding known_word_of
known_word ps = policy_word (known_of ps) (known_keeps ps)

-- what can always be the next number, and lies always there
pub number_next : (ps : List ℕ) → number_of ps (length ps + 1) ≡ Ok (length ps + 1)
number_next ps = cond-true (eqb (length ps + 1) (length ps + 1)) _ _ (eq-eqb (length ps + 1) (length ps + 1) refl)

pub number_is : (ps : List ℕ) (v n : ℕ) → number_of ps v ≡ Ok n → v ≡ length ps + 1
number_is ps v n h = eqb-true v (length ps + 1) (cond_ok (eqb v (length ps + 1)) (Ok v) WrongNumber n h).0

pub known_top : (ps : List ℕ) → known_of ps 0 ≡ Ok 0
known_top ps = cond-true (leb 0 (length ps)) _ _ (le-leb 0 (length ps) (omega arith))

pub under_top : (ps : List ℕ) → under_of ps 0 ≡ Ok 0
under_top ps = ok_before (known_of ps 0) _ 0 (known_top ps)

pub known_low : (ps : List ℕ) (v n : ℕ) → known_of ps v ≡ Ok n → v ≤ length ps
known_low ps v n h = leb-true v (length ps) (cond_ok (leb v (length ps)) (Ok v) UnknownParent n h).0

pub under_low : (ps : List ℕ) (v n : ℕ) → under_of ps v ≡ Ok n → v ≤ length ps
under_low ps v n h = let b = before_ok (known_of ps v) _ n h in known_low ps v b.0 b.1

-- a profile, by the checks of its words

abbrev pub Bought : Profile → Type 0
Bought (Vs t l) = Within Rate t × Within Tolerance l
Bought (Lb t l) = Within Rate t × Within Tolerance l
Bought (Tb r b) = Within Rate r × Within Burst b
Bought (Sr cir cbs ebs) = Within Rate cir × Within LooseBurst cbs × Within (Excess cbs) ebs
Bought (Tr cir cbs pir pbs) = Within Rate cir × Within Burst cbs × Within (Peak cir) pir × Within Burst pbs

pub buys : (p : Profile) → Bought p → ProfileOk p
buys (Vs t l) h = (gcra_terms t l, ok_and Rate t _ h.0 ∙ ok_and Tolerance l _ h.1)
buys (Lb t l) h = (gcra_terms t l, ok_and Rate t _ h.0 ∙ ok_and Tolerance l _ h.1)
buys (Tb r b) h = (token_terms r b, ok_and Rate r _ h.0 ∙ ok_and Burst b _ h.1)
buys (Sr cir cbs ebs) h =
    (single_terms cir cbs ebs, ok_and Rate cir _ h.0 ∙ ok_and LooseBurst cbs _ h.1 ∙ ok_and (Excess cbs) ebs _ h.2)
buys (Tr cir cbs pir pbs) h =
    (two_terms cir cbs pir pbs, ok_and Rate cir _ h.0 ∙ ok_and Burst cbs _ h.1 ∙ ok_and (Peak cir) pir _ h.2 ∙ ok_and Burst pbs _ h.3)

pub bought_by : (p : Profile) → ProfileOk p → Bought p
bought_by (Vs t l) h = let a = and_ok Rate t _ h.0 h.1 in let b = and_ok Tolerance l _ h.0 a.1 in (a.0, b.0)
bought_by (Lb t l) h = let a = and_ok Rate t _ h.0 h.1 in let b = and_ok Tolerance l _ h.0 a.1 in (a.0, b.0)
bought_by (Tb r b) h = let x = and_ok Rate r _ h.0 h.1 in let y = and_ok Burst b _ h.0 x.1 in (x.0, y.0)
bought_by (Sr cir cbs ebs) h =
    let x = and_ok Rate cir _ h.0 h.1 in
    let y = and_ok LooseBurst cbs _ h.0 x.1 in
    let z = and_ok (Excess cbs) ebs _ h.0 y.1 in
    (x.0, y.0, z.0)
bought_by (Tr cir cbs pir pbs) h =
    let x = and_ok Rate cir _ h.0 h.1 in
    let y = and_ok Burst cbs _ h.0 x.1 in
    let z = and_ok (Peak cir) pir _ h.0 y.1 in
    let u = and_ok Burst pbs _ h.0 z.1 in
    (x.0, y.0, z.0, u.0)
