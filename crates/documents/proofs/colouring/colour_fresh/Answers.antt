use Rattle.std.proofs.Common.{◌≡◌, vec_items, ap, ◌∙◌}
use Rattle.meter.specs.Rules.{unused}
use Rattle.meter.specs.Alone.{answers}
use Rattle.documents.specs.Fresh.{seen}
use Rattle.kinds.specs.Kinds.{any_meaning}
use Rattle.kinds.specs.Making.{bought}
use Rattle.documents.proofs.Documented.{documented_runs, made_terms}
use Rattle.documents.proofs.colouring.colour_fresh.Goals as goal

pub returns : goal.returns
returns c =
    let a = c.args in
    let (w, is, fresh) = made_terms (bought a.profile) (any_meaning c.in_ok-meter.meter) c.in_ok-meter.ensures.value in
    let ran = c.in_ok-colour_all.ensures.cases in
    let arrivals = a.arrivals.now in
    let same : vec_items c.in_ok-colour_all.field-0 ≡ answers (unused w) (seen a.mode arrivals) =
    ran.answers
    ∙ ap (λ m. answers m c.deref.result.now) fresh
    ∙ ap (answers (unused w)) (c.deref.ensures.value ∙ c.in_ok-packets.ensures) in
    record { answers = (w, is, same); documented = λ up. same ∙ documented_runs a.mode a.profile w is arrivals up }
