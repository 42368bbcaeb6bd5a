use Rattle.std.proofs.Common.{◌≡◌, refl, ◌∙◌, arith, rules}
use Rattle.std.proofs.lemmas.Simd.{get_or-replicate}
use Rattle.totals.specs.Totals.{row_count, no_total}
use Rattle.totals.proofs.rows.Totals.new.Goals as goal

pub returns : goal.returns
returns c g =
    let x = c.default.result in
    let e : x ≡ no_total = search rules in
    record {
      small = λ k d lt. absurd (omega arith);
      few = omega arith;
      offered = refl;
      long = refl;
      rows = λ k lt. get_or-replicate row_count k x no_total lt ∙ e;
    }
