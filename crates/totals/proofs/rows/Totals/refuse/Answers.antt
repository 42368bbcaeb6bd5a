use Rattle.std.proofs.Common.{List, cond, sym, ap, ◌∙◌, rules}
use Rattle.std.proofs.lemmas.Bool.{ne_eqb, eq-eqb}
use Rattle.totals.specs.Totals.{denied, denied_in}
use Rattle.totals.specs.declared.rows.Total.{Total}
use Rattle.totals.specs.declared.rows.Totals as table
use Rattle.totals.proofs.rows.Totals.refuse.Goals as goal

abbrev with : table.Totals → List Total → table.Totals
with t rs = record t { rows = rs }

pub returns-then-node-ne0 : goal.returns-then-node-ne0
returns-then-node-ne0 c =
    let t = c.args.self.now in
    let k = c.args.node in
    let line = c.change.ensures denied (λ r s p. search rules) in
    let node = c.change-then-node-ne0.ensures denied (λ r s p. search rules) in
    let first = denied_in t.rows 0 in
    node ∙ ap (λ u. with u (denied_in u.rows k)) line ∙ sym (ap (λ b. with t (cond b first (denied_in first k))) (ne_eqb k 0 c.if-node-ne0.true))

pub returns-else-node-ne0 : goal.returns-else-node-ne0
returns-else-node-ne0 c =
    let t = c.args.self.now in
    let k = c.args.node in
    let line = c.change.ensures denied (λ r s p. search rules) in
    let first = denied_in t.rows 0 in
    line ∙ sym (ap (λ b. with t (cond b first (denied_in first k))) (eq-eqb k 0 c.if-node-ne0.false))
