use Rattle.std.proofs.Common.{get_or, sym, ap, ◌∙◌, arith}
use Rattle.std.proofs.lemmas.Str.Parse.{parse_plain}
use Rattle.std.proofs.lemmas.Str.Pattern.{starts_char}
use Rattle.colour.specs.Words.{numeral}
use Rattle.colour.proofs.Numerals.{own, numeral_no_text, numeral_no_plus, numeral_converted}
use Rattle.colour.proofs.words.number.Goals as goal

pub returns-in_default : goal.returns-in_default
returns-in_default c = sym (numeral_no_text c.args.word.now c.in_default.ensures.cases.0)

pub returns-then-starts_with : goal.returns-then-starts_with
returns-then-starts_with c =
    let plus = starts_char 43 c.in-Ok.text.now c.starts_with.result c.starts_with.ensures.cases (omega arith) (omega arith) in
    let is = c.in-Ok.ensures.cases.0 in
    sym (numeral_no_plus c.args.word.now (sym (ap (λ l. get_or l 0 0) is) ∙ plus.0 c.if-starts_with.true))

pub returns : goal.returns
returns c =
    let text = c.in-Ok.text.now in
    let plus = starts_char 43 text c.starts_with.result c.starts_with.ensures.cases (omega arith) (omega arith) in
    c.ok.ensures.value
    ∙ numeral_converted text c.parse.result (parse_plain own 64 text c.parse.result c.parse.ensures.value.0 (λ e. let is = plus.1 e in cc))
    ∙ ap numeral c.in-Ok.ensures.cases.0
