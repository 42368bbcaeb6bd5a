-- From the row that was found to the meter that is held. Assumes nothing.
use Rattle.std.proofs.Common.{◌≡◌, ℕ, ◌+◌, ◌<◌, length, Some, None, Ok, Err, Option, Result, sym, ap, ◌∙◌, subst, arith}
use Rattle.flow.specs.declared.key.Key as keys
use Rattle.flow.specs.declared.row.Row.{Row}
use Rattle.flow.specs.declared.row.Unplaced.{Unplaced}
use Rattle.flow.specs.declared.row.Unplaced.TheVariants as unplaced
use Rattle.flow.specs.declared.table.FlowTable.{FlowTable}
use Rattle.flow.specs.Rows.{At, Keyed}
use Rattle.flow.specs.Tables.{rows_of, Held, Missing, RowOf, Puts, Places, Read, Replaces}
use Rattle.flow.proofs.Chains.{at_same}
use Rattle.flow.proofs.Whole.{sound}
use Rattle.std.specs.Option.{option_map}
use Rattle.policing.specs.Flows.{Looked}

module _ {K M : Type 0} {kind : keys.Ghosts K} (t : FlowTable K M kind) where
  -- a row in use that has the key is the one in which the meter is held
  pub held_row : (i : ℕ) (k : K) (m : M) → i < t.used → Keyed (rows_of t) i k → Held t k m → (x : Row K M) × At (rows_of t) i x × (x.key ≡ k) × (x.meter ≡ m)
  held_row i k m lt (x, at, key) (j, y, less, there, its, meter) =
      let same : j ≡ i = (sound t).once j i k less lt (y, there, its) (x, at, key) in
      let e : y ≡ x = at_same (rows_of t) i y x (subst (λ n. At (rows_of t) n y) same there) at in
      (x, at, key, sym (ap (λ (r : Row K M). r.meter) e) ∙ meter)

  -- the row that was found, with its meter
  pub looked_row : (k : K) (i : ℕ) (r : Option M) → RowOf t i k → Read t i r → Looked t k (Ok (option_map (λ m. record { row = i; meter = m }) r))
  looked_row k i (Some m) row read =
      let x = row.1.0 in (
        row,
        (i, x, row.0, row.1.1, row.1.2, sym (read.1 x row.1.1)),
        λ n held.
            let h = held_row i k n row.0 row.1 held in
            sym h.3 ∙ sym (read.1 h.0 h.1),
      )
  looked_row k i None row read = absurd (omega (arith, row.0, read))

module _ {K M : Type 0} {kind : keys.Ghosts K} (t u : FlowTable K M kind) where
  pub replaced : (i : ℕ) (m : M) (r : Option (Unit {0})) → i < t.used → Replaces t u i m r → (u.used ≡ t.used) × ((k : K) → RowOf t i k → Puts t u k m)
  replaced i m (Some _) lt s = (s.1, s.3)
  replaced i m None lt s = absurd (let z = s.0 in omega arith)

  pub added : (k : K) (m : M) (r : Result ℕ Unplaced) → Missing t k → t.used < length (rows_of t) → Places t u k m r → (u.used ≡ t.used + 1) × Puts t u k m
  added k m (Ok i) missing free s = (s.2, s.3)
  added k m (Err unplaced.Held) missing free s = absurd (missing s.0.0 s.0.1.0 s.0.1.1)
  added k m (Err unplaced.Full) missing free s = absurd (let z = s.1 in omega arith)
