use Rattle.std.proofs.Common.{◌≡◌, not, position, unwrap_or, length, ap, ◌∙◌, rules, tests}
use Rattle.std.specs.Char.{is_ascii_digit}
use Rattle.std.proofs.lemmas.Iterator.{YieldsList-from_slice}
use Rattle.std.proofs.lemmas.Iterator.Search.{position_from_yields_List}
use Rattle.policy_words.proofs.Digits.{run_place}
use Rattle.policy_words.proofs.numbers.run.Goals as goal

pub returns : goal.returns
returns c =
    let t = c.args.text.now in
    let h : c.position.result ≡ position (λ b. not (is_ascii_digit b)) t =
    position_from_yields_List (λ b. not (is_ascii_digit b)) _ _ _ c.position.ensures.ran (YieldsList-from_slice t cc) (λ x b q k. search (rules, tests)) in
    let r : c.unwrap_or.result ≡ unwrap_or c.position.result (length t) = search rules in
    r ∙ ap (λ o. unwrap_or o (length t)) h ∙ run_place t
