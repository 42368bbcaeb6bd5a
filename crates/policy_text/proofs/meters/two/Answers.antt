use Rattle.std.proofs.Common.{◌≡◌, Ok, rules}
use Rattle.policy_text.specs.Amounts.{check_of, amount_of}
use Rattle.policy_text.proofs.Checks.{amount_checked, placed_ok}
use Rattle.policy_text.proofs.meters.two.Goals as goal

pub returns-clause-within : goal.returns-clause-within
returns-clause-within c =
    let x : c.amount_word.result ≡ Ok (c.in_ok-a.a, c.in_ok-a.rest) = search (rules, placed_ok) in
    let y : c.amount_word-2.result ≡ Ok (c.in_ok-b.b, c.in_ok-b.rest) = search (rules, placed_ok) in
    let first : amount_of (check_of c.args.first) c.args.text.now ≡ Ok (c.in_ok-a.a, c.in_ok-a.rest.now) = search rules in
    let second : amount_of (check_of c.args.second) c.in_ok-a.rest.now ≡ Ok (c.in_ok-b.b, c.in_ok-b.rest.now) = search rules in
    (amount_checked _ _ _ _ first, amount_checked _ _ _ _ second)
