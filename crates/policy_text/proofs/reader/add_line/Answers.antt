use Rattle.std.proofs.Common.{◌≡◌, sym, ◌∙◌, subst}
use Rattle.kinds.specs.declared.profiles.AnyMeter.{AnyMeter}
use Rattle.policy.specs.declared.policies.Policy.{Policy}
use Rattle.policy.specs.Policies.{NodeAdded, RuleAdded}
use Rattle.policy_text.specs.declared.lines.Line.{Line}
use Rattle.policy_text.specs.Policies.{Grown}
use Rattle.policy_text.proofs.Splits.{node_grown, rule_grown}
use Rattle.policy_text.proofs.reader.add_line.Goals as goal
use Rattle.policy_text.proofs.reader.add_line.Goals.{in-Node, in-Rule}

same : (p q r : Policy AnyMeter) (x y : Line) → r ≡ q → y ≡ x → Grown p q x → Grown p r y
same p q r x y e f grown = subst (λ z. Grown p z y) (sym e) (subst (Grown p q) (sym f) grown)

pub returns-in-Ok : goal.returns-in-Ok
returns-in-Ok c =
    let p = c.args.policy.now in
    let u = c.in-Ok.field-0 in
    elim c.match-line.branch [
      | in-Node w ↦
          let x = w.in-Node.node in
          let a = w.add_node-added in
          let m = w.meter_of.result in
          let up = w.from-in-Node.result in
          same p a.new.self _ _ _ w.policy-is w.in-Node.is
          (node_grown p a.new.self x w.from.result up m u w.from-in-Node.ensures w.meter_of.ensures
          (subst (NodeAdded p a.new.self w.from.result up m) (sym w.added-is ∙ c.in-Ok.is) a.ensures))
      | in-Rule w ↦
          let r = w.in-Rule.rule in
          let a = w.add_rule-added in
          let m = w.meter_of-in-Rule.result in
          let up = w.from-in-Rule.result in
          same p a.new.self _ _ _ w.policy-is w.in-Rule.is
          (rule_grown p a.new.self r up m u w.from-in-Rule.ensures w.meter_of-in-Rule.ensures
          (subst (RuleAdded p a.new.self r.selector up m) (sym w.added-is ∙ c.in-Ok.is) a.ensures))
    ]
