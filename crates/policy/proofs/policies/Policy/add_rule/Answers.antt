-- A rule more lies under a node of the tree, or the push was refused and there is none.
use Rattle.std.proofs.Common.{is_ok, vec_items, vec_len, arith}
use Rattle.policy.specs.declared.rules.Rule.{Rule}
use Rattle.policy.proofs.Pushed.{rules_under}
use Rattle.policy.proofs.policies.Policy.add_rule.Goals as goal

pub invariant_of-self-clause-under : goal.invariant_of-self-clause-under
invariant_of-self-clause-under g c =
    let p = c.args.self.now in
    let row : Rule g.row.M.Denot = record { selector = c.args.selector; parent = c.in_ok-parent.parent; meter = c.args.meter } in
    rules_under (vec_len p.tree.parents) (vec_items p.rules) (vec_items c.push.new.self) row (is_ok c.push.result) c.push.ensures.items p.under (omega (arith, c.in_ok-parent.ensures.known))
