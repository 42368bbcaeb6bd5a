-- The record that is handed out is the one that the bytes give.
use Rattle.std.proofs.Common.{◌≡◌, ◌+◌, ◌-◌, sym, subst, rules, take, drop}
use Rattle.capture.specs.Records.{head_size, Entry, whole, at_hand, Fronts}
use Rattle.capture.proofs.Entries.{fronts}
use Rattle.capture.proofs.layout.Record.first.Goals as goal

pub returns-clause-fronts : goal.returns-clause-fronts
returns-clause-fronts c =
    let o = c.args.order in
    let bs = c.args.bytes.now in
    let e : Entry =
    record {
      seconds = c.number.result;
      microseconds = c.number-microseconds.result;
      original = c.number-original.result;
      frame = take (16 + c.number-captured.result - 16) (drop head_size bs);
    } in
    let is : whole e ≡ at_hand o bs = search rules in
    subst (λ x. Fronts o bs x) (sym is) (fronts o bs (λ i. (c.type_inv.bytes i).fits))
