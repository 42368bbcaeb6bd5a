-- A place of the table, and what its code point reads as.
use Rattle.std.proofs.Common.{◌≡◌, get_or, ap, ◌∙◌, arith}
use Rattle.packet.specs.Marks.{code, colour_of}
use Rattle.packet.proofs.Colours.{code_below, colour_of_code}
use Rattle.packet.proofs.marks.Marks.code_of.Goals as goal

pub returns : goal.returns
returns c =
    let m = c.args.self.now in
    let k = c.args.class in
    let e : get_or m.codes c.place_of.result 0 ≡ code m k c.args.colour = ap (λ i. get_or m.codes i 0) c.place_of.ensures.value in
    record {
      value = e;
      bound = omega (arith, e, code_below m k c.args.colour);
      back = ap (colour_of m) e ∙ colour_of_code m k c.args.colour;
    }
