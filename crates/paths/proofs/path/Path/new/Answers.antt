use Rattle.std.proofs.Common.{◌≡◌, ℕ, suc, ◌+◌, ◌-◌, ◌<◌, List, [], ◌∷◌, ◌++◌, length, take, set, get_or, sym, ap, ◌∙◌, append_assoc, append-nil, arith}
use Rattle.std.proofs.lemmas.List.{take_more_set, set-get_or}
use Rattle.policy.specs.Trees.{parent_of, upward}
use Rattle.policy.proofs.Ancestry.{upward_none, upward_more}
use Rattle.paths.proofs.path.Path.new.Goals as goal

-- one node more
more : (xs ps : List ℕ) (i n up : ℕ) → i < 7 → i < length xs → 0 < n → up ≡ parent_of ps n → take (i + 1) (set xs i n) ++ upward (7 - (i + 1)) ps up ≡ take i xs ++ upward (7 - i) ps n
more xs ps i n up lt inside pos is =
    let e : 7 - i ≡ suc (7 - (i + 1)) = omega arith in
    ap (λ l. l ++ upward (7 - (i + 1)) ps up) (take_more_set xs i n inside)
    ∙ append_assoc (take i xs) (n ∷ []) (upward (7 - (i + 1)) ps up)
    ∙ ap (λ v. take i xs ++ (n ∷ upward (7 - (i + 1)) ps v)) is
    ∙ ap (λ l. take i xs ++ l) (sym (ap (λ f. upward f ps n) e ∙ upward_more (7 - (i + 1)) ps n pos))

-- the numbers in use, where nothing is left of the way up
ended : (xs ys rest : List ℕ) (i : ℕ) → take i xs ++ rest ≡ ys → rest ≡ [] → take (1 + i) (0 ∷ (set xs i (get_or xs i 0) ++ [])) ≡ 0 ∷ ys
ended xs ys rest i e z =
    let one : 1 + i ≡ suc i = omega arith in
    ap (λ k. take k (0 ∷ (set xs i (get_or xs i 0) ++ []))) one
    ∙ ap (λ l. 0 ∷ take i l) (append-nil (set xs i (get_or xs i 0)) ∙ set-get_or xs i 0)
    ∙ ap (λ l. 0 ∷ l) (sym (append-nil (take i xs)) ∙ ap (λ l. take i xs ++ l) (sym z) ∙ e)

pub returns-then-node-eq0 : goal.returns-then-node-eq0
returns-then-node-eq0 c =
    let l = c.loop-nodes in
    let ps = c.args.parents.now in
    ended l.number-items (upward 7 ps c.args.start) (upward (7 - l.nodes) ps l.node) l.nodes l.invariant (upward_none (7 - l.nodes) ps l.node c.if-node-eq0.true)

pub loop-nodes-preserved : goal.loop-nodes-preserved
loop-nodes-preserved c =
    let l = c.loop-nodes in
    let pos : 0 < l.node = omega arith in
    more l.number-items c.args.parents.now l.nodes l.node c.parent_of-node.result (omega arith) (omega arith) pos c.parent_of-node.ensures ∙ l.invariant
