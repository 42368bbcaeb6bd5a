use Rattle.std.proofs.Common.{◌+◌, ℕ, List, drop, sym, ap, ◌∙◌, arith, rules}
use Rattle.std.proofs.lemmas.List.{at_drop_more, at_drop_all}
use Rattle.totals.specs.Totals.{bumped, bumped_all}
use Rattle.totals.specs.declared.rows.Totals as table
use Rattle.totals.proofs.rows.Totals.carry.Goals as goal

pub loop-node-preserved : goal.loop-node-preserved
loop-node-preserved c =
    let a = c.args in
    let i = c.loop-node.node-index in
    let s = c.loop-node.self in
    let onward : table.Totals → List ℕ → table.Totals = λ t ks. record t { rows = bumped_all t.rows ks a.colour a.size.0 } in
    let one = c.change.ensures (λ r. bumped r a.colour a.size.0) (λ r s p. search rules) in
    c.loop-node.invariant ∙ at_drop_more (onward s) a.path.now i 0 (omega arith) ∙ sym (ap (λ t. onward t (drop (i + 1) a.path.now)) one)

pub returns : goal.returns
returns c =
    let a = c.args in
    let s = c.loop-node.self in
    let onward : table.Totals → List ℕ → table.Totals = λ t ks. record t { rows = bumped_all t.rows ks a.colour a.size.0 } in
    sym (c.loop-node.invariant ∙ at_drop_all (onward s) a.path.now c.loop-node.node-index (omega arith))
