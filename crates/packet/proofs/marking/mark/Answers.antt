-- Where the mark does not differ, the frame is written as it came.
use Rattle.std.proofs.Common.{ap, ◌∙◌}
use Rattle.packet.specs.Marking.{chosen}
use Rattle.packet.proofs.Exits.{as_it_came}
use Rattle.packet.proofs.marking.mark.Goals as goal

pub returns-in_default : goal.returns-in_default
returns-in_default c =
    let a = c.args in
    as_it_came a.marks.now a.class a.colour a.frame.now a.buffer.now c.in_ok-packet.packet c.in_ok-packet.ensures c.if-buffer-frame.false
    (c.in_default.ensures ∙ ap (λ x. chosen x c.in_ok-packet.packet) c.code_of-code.ensures.value)
