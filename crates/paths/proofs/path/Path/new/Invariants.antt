use Rattle.std.proofs.Common.{◌≡◌, ◌-◌, ◌++◌, take}
use Rattle.policy.specs.Trees.{upward}
use Rattle.paths.proofs.path.Path.new.Given as goal

-- the nodes so far, and what is left of the way up
abbrev pub invariant-loop-nodes : goal.invariant-loop-nodes
invariant-loop-nodes l = take l.nodes l.number-items ++ upward (7 - l.nodes) l.parents l.node ≡ upward 7 l.parents l.start
