-- What was charged is sound and has the meter's terms, so it is what is stored.
use Rattle.std.proofs.Common.{◌≡◌, Ok, sym, ap, ◌∙◌}
use Rattle.meter.specs.Rules.{charged}
use Rattle.meter.proofs.Keeps.{charged_terms, charged_sound}
use Rattle.meter.proofs.metering.Meter.charge.Goals as goal

pub returns-clause-charged : goal.returns-clause-charged
returns-clause-charged g c =
    let a = c.args in
    let m = g.Self.Meter.meaning a.self.now in
    let next = c.in_ok-next.next in
    let n = a.load.size.0 in
    let t = a.load.moment.0 in
    let h : charged m n t a.colour ≡ Ok next = ap (λ x. charged x n t a.colour) (sym c.state.ensures) ∙ sym c.in_ok-next.ensures in
    h ∙ ap Ok (sym (c.store.ensures.after (charged_terms m next n t a.colour h) (charged_sound m next n t a.colour (g.met.Self.Meter.sound a.self.now) h)))
