use Rattle.std.proofs.Common.{sym, subst, arith}
use Rattle.policing.specs.Flows.{Keeps}
use Rattle.policing.proofs.Rows.{replaced, added}
use Rattle.policing.proofs.looking.keep_in.Goals as goal

pub returns-in-Some-clause-keeps : goal.returns-in-Some-clause-keeps
returns-in-Some-clause-keeps g c =
    let a = c.args in
    subst (λ row. Keeps a.table.now c.set.new.self a.key row a.meter) (sym c.in-Some.is)
    (λ at.
    let put = replaced a.table.now c.set.new.self c.in-Some.row a.meter c.set.result at.0 c.set.ensures.replaces in
    (omega (arith, put.0), put.1 a.key at))

pub returns-in-None-clause-keeps : goal.returns-in-None-clause-keeps
returns-in-None-clause-keeps g c =
    let a = c.args in
    subst (λ row. Keeps a.table.now c.insert.new.self a.key row a.meter) (sym c.in-None.is)
    (λ missing free. added a.table.now c.insert.new.self a.key a.meter c.insert.result missing free c.insert.ensures.places)
