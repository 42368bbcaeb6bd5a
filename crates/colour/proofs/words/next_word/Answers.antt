use Rattle.std.proofs.Common.{◌≡◌, rules, length, position, unwrap_or, not, None, Some}
use Rattle.std.proofs.lemmas.Iterator.{YieldsList-from_slice}
use Rattle.std.proofs.lemmas.Iterator.Search.{position_from_yields_List}
use borrow.Author.Tests.{tests}
use Rattle.colour.specs.Words.{blank}
use Rattle.colour.proofs.Splits.{tail, words_end, words_split}
use Rattle.colour.proofs.words.next_word.Goals as goal

pub returns-in_err-start : goal.returns-in_err-start
returns-in_err-start c =
    let first = position_from_yields_List (λ b. not (blank b)) _ _ c.position.result c.position.ensures.ran (YieldsList-from_slice c.args.text.now cc) (λ x b q k. search (rules, tests)) in
    let none : position (λ b. not (blank b)) c.args.text.now ≡ None = cc in
    let no_words = words_end c.args.text.now none in
    search rules

pub returns : goal.returns
returns c =
    let t = c.args.text.now in
    let start = c.in_ok-start.start in
    let first = position_from_yields_List (λ b. not (blank b)) _ _ c.position.result c.position.ensures.ran (YieldsList-from_slice t cc) (λ x b q k. search (rules, tests)) in
    let next = position_from_yields_List blank _ _ c.position-end.result c.position-end.ensures.ran (YieldsList-from_slice (tail t start) cc) (λ x b q k. search (rules, tests)) in
    let some : position (λ b. not (blank b)) t ≡ Some start = cc in
    let ends : c.unwrap_or.result ≡ unwrap_or (position blank (tail t start)) (length (tail t start)) = cc in
    let split = words_split t start c.unwrap_or.result some ends in
    cc
