-- Only the meter of that row is written.
use Rattle.std.proofs.Common.{◌<◌, get_or, set, refl, ap, ◌∙◌, subst, arith}
use borrow.Rule.Slice.AtParam.{twice}
use Rattle.flow.specs.declared.row.Row.{Row}
use Rattle.flow.specs.Rows.{Put, At}
use Rattle.flow.proofs.Chains.{at_same}
use Rattle.flow.proofs.Grown.{keyed_on, metered_sound, metered_put}
use Rattle.flow.proofs.Whole.{sound}
use Rattle.flow.proofs.table.FlowTable.set.Goals as goal

pub invariant_of-self : goal.invariant_of-self
invariant_of-self g c =
    let t = c.args.self.now in
    let s = sound t in
    let old = get_or t.rows.now c.args.row c.index-self-row.result in
    let a : At t.rows.now c.args.row old = (omega (arith, s.room), twice t.rows.now c.args.row c.index-self-row.result) in
    record { whole = ∣ metered_sound s c.args.row old (record { key = old.key; meter = c.args.meter; next = old.next }) a refl refl ∣₁ }

pub returns-clause-replaces : goal.returns-clause-replaces
returns-clause-replaces g c =
    let t = c.args.self.now in
    let s = sound t in
    let rows = t.rows.now in
    let i = c.args.row in
    let old = get_or rows i c.index-self-row.result in
    let row : Row g.row.K.Denot g.row.M.Denot = record { key = old.key; meter = c.args.meter; next = old.next } in
    let used : i < t.used = c.if-row-self.false in
    let a : At rows i old = (omega (arith, s.room), twice rows i c.index-self-row.result) in (
      used,
      refl,
      λ j k y. (y.0, keyed_on s i old row a refl refl j k y.1),
      λ k y. subst (λ x. Put rows t.used (set rows i row) t.used x c.args.meter) (ap (λ r. r.key) (at_same rows i old y.1.0 a y.1.1) ∙ y.1.2) (metered_put s i old row a refl refl used),
    )
