-- A tree with a node more, and rules with a rule more: what held of them still holds.
use Rattle.std.proofs.Common.{◌≡◌, ℕ, ◌+◌, ◌-◌, ◌<◌, ◌≤◌, Bool, cond, List, [], ◌∷◌, ◌++◌, map, length, sym, ap, ◌∙◌, subst, ⊎_elim, arith}
use Rattle.std.proofs.lemmas.List.{get_or_append_left, get_or_push, get_or_past, length_push, map_push}
use Rattle.std.proofs.lemmas.Bool.{cases_lt, cases_order, cond_both}
use Rattle.policy.specs.declared.rules.Rule.{Rule}
use Rattle.policy.specs.Trees.{most_depth, parent_of, depth_of, Earlier, Shallow, AllUnder}
use Rattle.policy.proofs.Ancestry.{ancestry_push, depth_more}

pub earlier_push : (ps : List ℕ) (p : ℕ) → Earlier ps → p ≤ length ps → Earlier (ps ++ p ∷ [])
earlier_push ps p earlier known i inside =
    let len = length_push ps p in
    ⊎_elim
    (λ (h : i < length ps). let e = get_or_append_left ps (p ∷ []) 0 i h in let low = earlier i h in omega arith)
    (λ (h : length ps ≤ i). let e = get_or_push ps p 0 i (omega arith) in omega arith)
    (cases_lt i (length ps))

pub shallow_push : (ps : List ℕ) (p : ℕ) → Earlier ps → Shallow ps → p ≤ length ps → depth_of ps p < most_depth → Shallow (ps ++ p ∷ [])
shallow_push ps p earlier shallow known room n inside =
    let len = length_push ps p in
    ⊎_elim
    (λ (h : n < length ps + 1).
    let same = ap length (ancestry_push ps earlier p n (omega arith)) in
    let low = shallow n (omega arith) in
    omega arith)
    (λ (h : length ps + 1 ≤ n).
    let all = ps ++ p ∷ [] in
    let up : parent_of all n ≡ p = get_or_push ps p 0 (n - 1) (omega arith) in
    let more = depth_more all (earlier_push ps p earlier known) n (omega arith) inside in
    let same : depth_of all (parent_of all n) ≡ depth_of ps p = ap (depth_of all) up ∙ ap length (ancestry_push ps earlier p p known) in
    omega arith)
    (cases_lt n (length ps + 1))

pub under_push : (n : ℕ) (ps : List ℕ) (p : ℕ) → AllUnder n ps → p ≤ n → AllUnder n (ps ++ p ∷ [])
under_push n ps p under known i =
    let len = length_push ps p in
    ⊎_elim
    (λ (e : i ≡ length ps). let here = get_or_push ps p 0 i (sym e) in omega arith)
    (⊎_elim
    (λ (h : i < length ps). let same = get_or_append_left ps (p ∷ []) 0 i h in let low = under i in omega arith)
    (λ (h : length ps < i). let past = get_or_past (ps ++ p ∷ []) i 0 (omega arith) in omega arith))
    (cases_order i (length ps))

pub under_more : (n m : ℕ) (ps : List ℕ) → n ≤ m → AllUnder n ps → AllUnder m ps
under_more n m ps le under i = let low = under i in omega arith

-- a push that may be refused
pub rules_under : {M : Type 0} (n : ℕ) (rs now : List (Rule M)) (r : Rule M) (b : Bool) → now ≡ cond b (rs ++ r ∷ []) rs
    → AllUnder n (map (λ x. x.parent) rs) → r.parent ≤ n → AllUnder n (map (λ x. x.parent) now)
rules_under n rs now r b is under known =
    subst (λ l. AllUnder n (map (λ x. x.parent) l)) (sym is)
    (cond_both b (rs ++ r ∷ []) rs (λ l. AllUnder n (map (λ x. x.parent) l))
    (λ _. subst (AllUnder n) (sym (map_push (λ x. x.parent) rs r)) (under_push n (map (λ x. x.parent) rs) r.parent under known))
    (λ _. under))
