use Rattle.std.proofs.Common.{sym, ap, ◌∙◌}
use Rattle.totals.specs.Totals.{noted, refused_in}
use Rattle.totals.specs.declared.rows.Totals as table
use Rattle.totals.proofs.Counted.{counts_more}
use Rattle.totals.proofs.rows.Totals.note.Goals as goal

pub returns-in-Ok : goal.returns-in-Ok
returns-in-Ok c =
    let a = c.args in
    counts_more a.path.now a.size.0 a.answer a.self.now c.carry.new.self
    (ap (λ (t : table.Totals). t.offered) c.carry.ensures ∙ c.saturating_add-self.ensures)
    (ap (λ (t : table.Totals). t.rows) c.carry.ensures ∙ ap (noted a.self.now.rows a.path.now a.size.0) (sym c.in-Ok.is))

pub returns-in-Err : goal.returns-in-Err
returns-in-Err c =
    let a = c.args in
    counts_more a.path.now a.size.0 a.answer a.self.now c.refuse.new.self
    (ap (λ (t : table.Totals). t.offered) c.refuse.ensures ∙ c.saturating_add-self.ensures)
    (ap (λ (t : table.Totals). t.rows) c.refuse.ensures ∙ ap (refused_in a.self.now.rows) c.named.ensures ∙ ap (noted a.self.now.rows a.path.now a.size.0) (sym c.in-Err.is))
