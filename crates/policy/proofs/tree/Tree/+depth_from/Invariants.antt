use Rattle.policy.proofs.tree.Tree.+depth_from.Given as goal

abbrev pub decreases-depth_from : goal.decreases-depth_from
decreases-depth_from l = l.node
