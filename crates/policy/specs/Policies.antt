-- What may be added to a policy, and what adding comes to.
-- parents_of: a tree as the list of its parents; parent_in, depth_in: a node's parent and depth, where there is such a node
-- room_of, number_of, under_of: the checks of a node, in their order; rule_room_of, known_of: those of a rule
-- node_of, rule_of: the checks of a node and of a rule as a whole; before: one check before another
-- Placed: a parent under which the tree may have one node more
-- Kept: nothing changed; NodeAdded, RuleAdded: what adding comes to
-- Assumes nothing.
use Rattle.std.specs.Prelude.{◌≡◌, ℕ, ◌+◌, ◌<◌, ◌≤◌, cond, ◌&&◌, List, [], ◌∷◌, ◌++◌, length, Some, None, Ok, Err, vec_items, Option, Result, ◌==◌, nat_le, nat_lt}
use Rattle.policy.specs.declared.rules.AddError.{AddError}
use Rattle.policy.specs.declared.rules.AddError.TheVariants.{Refused, NoMemory}
use Rattle.policy.specs.declared.rules.Refusal.{Refusal}
use Rattle.policy.specs.declared.rules.Refusal.TheVariants.{WrongNumber, UnknownParent, TooDeep, TooManyNodes, TooManyRules}
use Rattle.policy.specs.declared.rules.Selector.{Selector}
use Rattle.policy.specs.declared.tree.Tree.{Tree}
use Rattle.policy.specs.declared.policies.Policy.{Policy}
use Rattle.policy.specs.Trees.{most_nodes, most_rules, most_depth, parent_of, depth_of}

abbrev pub parents_of : Tree → List ℕ
parents_of t = vec_items t.parents

abbrev pub parent_in : List ℕ → ℕ → Option ℕ
parent_in ps n = cond (nat_lt 0 n && nat_le n (length ps)) (Some (parent_of ps n)) None

-- 0, which is no node, has depth 0
abbrev pub depth_in : List ℕ → ℕ → Option ℕ
depth_in ps n = cond (nat_le n (length ps)) (Some (depth_of ps n)) None

-- one check before another
abbrev pub before : {X : Type 0} → Result ℕ Refusal → Result X Refusal → Result X Refusal
before (Ok n) x = x
before (Err e) x = Err e

-- a node more: its number
abbrev pub room_of : List ℕ → Result ℕ Refusal
room_of ps = cond (nat_lt (length ps) most_nodes) (Ok (length ps + 1)) (Err TooManyNodes)

abbrev pub number_of : List ℕ → ℕ → Result ℕ Refusal
number_of ps n = cond (n == length ps + 1) (Ok n) (Err WrongNumber)

-- 0, or a node that is there
abbrev pub known_of : List ℕ → ℕ → Result ℕ Refusal
known_of ps p = cond (nat_le p (length ps)) (Ok p) (Err UnknownParent)

-- such a node, and not at the greatest depth
abbrev pub under_of : List ℕ → ℕ → Result ℕ Refusal
under_of ps p = before (known_of ps p) (cond (nat_lt (depth_of ps p) most_depth) (Ok p) (Err TooDeep))

-- a rule more, where there are so many
abbrev pub rule_room_of : ℕ → Result ℕ Refusal
rule_room_of n = cond (nat_lt n most_rules) (Ok (n + 1)) (Err TooManyRules)

-- the parent of a node with this number
abbrev pub node_of : List ℕ → ℕ → ℕ → Result ℕ Refusal
node_of ps n p = before (room_of ps) (before (number_of ps n) (under_of ps p))

-- the parent of a rule behind so many
abbrev pub rule_of : List ℕ → ℕ → ℕ → Result ℕ Refusal
rule_of ps n p = before (rule_room_of n) (known_of ps p)

pub record Placed (ps : List ℕ) (p : ℕ) : Type 0 where
  pub room : length ps < most_nodes
  pub known : p ≤ length ps
  pub depth : depth_of ps p < most_depth

pub record Kept {M : Type 0} (p q : Policy M) : Type 0 where
  pub parents : parents_of q.tree ≡ parents_of p.tree
  pub meters : vec_items q.meters ≡ vec_items p.meters
  pub rules : vec_items q.rules ≡ vec_items p.rules

-- the node is the last, with its meter; or the first check that it fails; or there was no memory
abbrev pub NodeAdded : {M : Type 0} → Policy M → Policy M → ℕ → ℕ → M → Result (Unit {0}) AddError → Type 0
NodeAdded p q n up m (Ok u) =
    (node_of (parents_of p.tree) n up ≡ Ok up)
    × (parents_of q.tree ≡ parents_of p.tree ++ up ∷ [])
    × (vec_items q.meters ≡ vec_items p.meters ++ m ∷ [])
    × (vec_items q.rules ≡ vec_items p.rules)
NodeAdded p q n up m (Err (Refused e)) = (node_of (parents_of p.tree) n up ≡ Err e) × Kept p q
NodeAdded p q n up m (Err NoMemory) = (node_of (parents_of p.tree) n up ≡ Ok up) × Kept p q

abbrev pub RuleAdded : {M : Type 0} → Policy M → Policy M → Selector → ℕ → M → Result (Unit {0}) AddError → Type 0
RuleAdded p q s up m (Ok u) =
    (rule_of (parents_of p.tree) (length (vec_items p.rules)) up ≡ Ok up)
    × (parents_of q.tree ≡ parents_of p.tree)
    × (vec_items q.meters ≡ vec_items p.meters)
    × (vec_items q.rules ≡ vec_items p.rules ++ record { selector = s; parent = up; meter = m } ∷ [])
RuleAdded p q s up m (Err (Refused e)) = (rule_of (parents_of p.tree) (length (vec_items p.rules)) up ≡ Err e) × Kept p q
RuleAdded p q s up m (Err NoMemory) = (rule_of (parents_of p.tree) (length (vec_items p.rules)) up ≡ Ok up) × Kept p q
