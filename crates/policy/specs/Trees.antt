-- The tree of nodes, by the list of their parents: node n has its parent at n - 1, and 0 is no node.
-- most_nodes, most_depth, most_rules: the bounds on a tree, and on the number of rules
-- parent_of: a node's parent; upward: a node, its parent, and so on; ancestry: all of them; depth_of: how many they are
-- Earlier: each parent is an earlier node, or 0; Shallow: no node is too deep
-- AllUnder: numbers that are nodes, or 0
-- DepthLaw: the depth of 0 is 0, and a node's is one more than its parent's
-- Assumes nothing.
use Rattle.std.specs.Prelude.{◌≡◌, ℕ, zero, suc, ◌+◌, ◌-◌, ◌<◌, ◌≤◌, cond, List, [], ◌∷◌, length, ◌==◌, slice_index}

abbrev pub most_nodes : ℕ
most_nodes = 32

abbrev pub most_depth : ℕ
most_depth = 7

abbrev pub most_rules : ℕ
most_rules = 64

abbrev pub parent_of : List ℕ → ℕ → ℕ
parent_of ps n = slice_index ps (n - 1)

-- in at most so many steps
abbrev pub upward : ℕ → List ℕ → ℕ → List ℕ
upward zero ps n = []
upward (suc steps) ps n = cond (n == 0) [] (n ∷ upward steps ps (parent_of ps n))

-- the number falls at each step, so that there are at most n of them
abbrev pub ancestry : List ℕ → ℕ → List ℕ
ancestry ps n = upward n ps n

abbrev pub depth_of : List ℕ → ℕ → ℕ
depth_of ps n = length (ancestry ps n)

abbrev pub Earlier : List ℕ → Type 0
Earlier ps = (i : ℕ) → i < length ps → slice_index ps i ≤ i

abbrev pub Shallow : List ℕ → Type 0
Shallow ps = (n : ℕ) → n ≤ length ps → depth_of ps n ≤ most_depth

-- each is a node of so many, or 0
abbrev pub AllUnder : ℕ → List ℕ → Type 0
AllUnder n ps = (i : ℕ) → slice_index ps i ≤ n

abbrev pub DepthLaw : List ℕ → Type 0
DepthLaw ps = (depth_of ps 0 ≡ 0) × ((n : ℕ) → 0 < n → n ≤ length ps → depth_of ps n ≡ depth_of ps (parent_of ps n) + 1)
