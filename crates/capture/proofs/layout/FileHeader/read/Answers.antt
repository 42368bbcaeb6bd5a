-- The header that is read, written again, is the front of the file.
use Rattle.std.proofs.Common.{◌≡◌, Ok, Result, sym, subst, rules}
use Rattle.capture.specs.declared.layout.FileHeader.{FileHeader}
use Rattle.capture.specs.declared.layout.Refusal.{Refusal}
use Rattle.capture.specs.Headers.{header_of, HeaderFronts}
use Rattle.capture.proofs.FileHeads.{header_fronts}
use Rattle.capture.proofs.layout.FileHeader.read.Goals as goal

pub returns-clause-fronts : goal.returns-clause-fronts
returns-clause-fronts c =
    let bs = c.args.bytes.now in
    let h : FileHeader =
    record { order = c.in_ok-order.order; zone = c.number.result; accuracy = c.number-2.result; snap_length = c.number-3.result } in
    let is : ◌≡◌ {A = Result FileHeader Refusal} (Ok h) (header_of bs) = search rules in
    subst (λ x. HeaderFronts bs x) (sym is) (header_fronts bs (λ i. (c.type_inv.bytes i).fits))
