use Rattle.std.proofs.Common.{◌≡◌, ◌∷◌, get_or, Err, Ok, vec_items, rules, refl, sym, ap, ◌∙◌, subst, arith}
use Rattle.policy.specs.Trees.{most_depth, upward}
use Rattle.paths.specs.Layers.{layers_of}
use Rattle.policing.specs.Flows.{LookedBy}
use Rattle.policing.proofs.Moves.{rule_same, moves_to, path_to, held_missing, row_missing}
use Rattle.policing.proofs.cores.Core.settle.Goals as goal

pub returns-in_err-held-clause-settles : goal.returns-in_err-held-clause-settles
returns-in_err-held-clause-settles g c x at =
    let p = c.args.self.now in
    let (is, missing, more) = c.in_err-held.ensures in
    let e : c.from_residual-in_err-held.result ≡ Err c.in_err-held.field-0.0 = search rules in
    record {
      known = λ m held. absurd (held_missing p c.args.flow.key m missing held);
      unknown = λ _ less. absurd (omega arith);
      full = λ _ _. (e ∙ ap Err is, record { flows = ((refl, refl, refl), (refl, refl, refl)); nodes = refl; parents = refl; rules = refl; clock = refl });
    }

pub returns-in-Some-clause-settles : goal.returns-in-Some-clause-settles
returns-in-Some-clause-settles g c x at =
    let p = c.args.self.now in
    let w = c.args.flow in
    let found = subst (λ o. LookedBy p.flows w.key (Ok o)) c.in-Some.is c.in_ok-held.ensures in
    let read = c.in_ok-rule.field-0.now in
    let there = rw c.in_ok-rule.ensures.ok_part at c.get.ensures.lookup in
    let e = rule_same (vec_items p.rules) w.rule read x at.0 (there.1 ∙ ap (λ l. get_or l w.rule read) c.deref.ensures.value) at in
    record {
      known = λ m held.
          moves_to g.M.Meter.meaning p _ c.args.load w.key w.arrival (layers_of c.new.result) _ c.in-Some.held.meter m 0 _
          (path_to p read x (layers_of c.new.result) (c.new.ensures ∙ ap (λ l. 0 ∷ upward most_depth l read.parent) c.parents.ensures.value) e) (sym (found.2 m held))
          (c.pass_on.ensures.judged, c.pass_on.ensures.came found.0);
      unknown = λ missing _. absurd (row_missing p w.key c.in-Some.held.row missing found.0);
      full = λ missing _. absurd (row_missing p w.key c.in-Some.held.row missing found.0);
    }

pub returns-in-None-clause-settles : goal.returns-in-None-clause-settles
returns-in-None-clause-settles g c x at =
    let p = c.args.self.now in
    let w = c.args.flow in
    let (missing, less) = subst (λ o. LookedBy p.flows w.key (Ok o)) c.in-None.is c.in_ok-held.ensures in
    let read = c.in_ok-rule.field-0.now in
    let there = rw c.in_ok-rule.ensures.ok_part at c.get.ensures.lookup in
    let e = rule_same (vec_items p.rules) w.rule read x at.0 (there.1 ∙ ap (λ l. get_or l w.rule read) c.deref.ensures.value) at in
    record {
      known = λ m held. absurd (held_missing p w.key m missing held);
      unknown = λ _ _.
          moves_to g.M.Meter.meaning p _ c.args.load w.key w.arrival (layers_of c.new.result) _ read.meter x.meter 1 _
          (path_to p read x (layers_of c.new.result) (c.new.ensures ∙ ap (λ l. 0 ∷ upward most_depth l read.parent) c.parents.ensures.value) e) (λ i. (e i).meter)
          (c.pass_on-in-None.ensures.judged, c.pass_on-in-None.ensures.came missing less);
      full = λ _ full. absurd (omega arith);
    }
