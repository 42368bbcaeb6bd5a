-- Where a row is free the key takes it, in front of its chain; elsewhere nothing is written.
use Rattle.std.proofs.Common.{◌<◌, get_or, refl, arith}
use Rattle.flow.specs.Keys.{chain_of}
use Rattle.flow.specs.declared.row.Row.{Row}
use Rattle.flow.proofs.Chains.{at_new, none_found}
use Rattle.flow.proofs.Grown.{grown_sound, grown_put}
use Rattle.flow.proofs.Whole.{sound, is_full, has_room}
use Rattle.flow.proofs.table.FlowTable.insert.Goals as goal

pub returns-then-is_full-clause-places : goal.returns-then-is_full-clause-places
returns-then-is_full-clause-places g c =
    let t = c.args.self.now in
    let s = sound t in (
      none_found t.rows.now t.used c.args.key c.find.result c.if-is_some.ensures c.find.ensures,
      omega (arith, s.room, is_full t c.if-is_full.ensures),
      (refl, refl, refl),
    )

pub overflow_cast-row : goal.overflow_cast-row
overflow_cast-row g c = let t = c.args.self.now in let s = sound t in omega (arith, s.few, has_room t c.if-is_full.ensures)

pub invariant_of-self : goal.invariant_of-self
invariant_of-self g c =
    let t = c.args.self.now in
    let s = sound t in
    let small : chain_of (g.K.Key.bytes c.args.key) < 64 = omega arith in
    let free = has_room t c.if-is_full.ensures in
    let new = none_found t.rows.now t.used c.args.key c.find.result c.if-is_some.ensures c.find.ensures in
    rw (c.link_row.ensures.rows, c.link_row.ensures.heads) (record { whole = ∣ grown_sound s (record { key = c.args.key; meter = c.args.meter; next = get_or t.heads (chain_of (g.K.Key.bytes c.args.key)) 0 }) new free small refl ∣₁ })

pub returns-clause-places : goal.returns-clause-places
returns-clause-places g c =
    let t = c.args.self.now in
    let s = sound t in
    let rows = t.rows.now in
    let row : Row g.row.K.Denot g.row.M.Denot = record { key = c.args.key; meter = c.args.meter; next = get_or t.heads (chain_of (g.K.Key.bytes c.args.key)) 0 } in
    let small : chain_of (g.K.Key.bytes c.args.key) < 64 = omega arith in
    let free = has_room t c.if-is_full.ensures in
    let new = none_found rows t.used c.args.key c.find.result c.if-is_some.ensures c.find.ensures in
    rw c.link_row.ensures.rows (new, free, refl, grown_put s row new free small refl, (omega arith, (row, at_new rows t.used row free, refl)))
