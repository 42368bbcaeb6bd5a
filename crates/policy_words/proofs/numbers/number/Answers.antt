use Rattle.std.proofs.Common.{◌≡◌, true, take, Ok, sym, ap, ◌∙◌, subst, arith}
use Rattle.std.specs.Str.{all_ascii_digits}
use Rattle.policy_words.specs.Numbers.{read_on, number_by, number_of}
use Rattle.policy_words.proofs.Digits.{run_fits, run_digits, plain_from, number_back}
use Rattle.policy_words.proofs.numbers.number.Goals as goal

pub well_formed-requires : goal.well_formed-requires
well_formed-requires c = omega (arith, run_fits c.args.text.now, c.run-n.ensures)

pub split_at-requires : goal.split_at-requires
split_at-requires c = omega (arith, run_fits c.args.text.now, c.run-n.ensures)

pub value-requires : goal.value-requires
value-requires c =
    let t = c.args.text.now in
    let short = (plain_from c.run-n.result t _ c.in_ok-well_formed.ensures).0.short in (
      subst (λ l. all_ascii_digits l ≡ true) (sym (c.split_at.ensures.front ∙ ap (λ n. take n t) c.run-n.ensures)) (run_digits t),
      omega (arith, c.split_at.ensures.front_len),
    )

pub returns : goal.returns
returns c =
    let t = c.args.text.now in
    let v : number_of t ≡ Ok (c.value.result, c.split_at.result.1.now) =
    ap (λ n. number_by n t) (sym c.run-n.ensures) ∙ c.in_ok-well_formed.ensures
    ∙ (λ i. Ok ((ap (read_on 0) (sym c.split_at.ensures.front) ∙ sym c.value.ensures) i, sym c.split_at.ensures.back i)) in
    record { value = v; canonical = number_back t _ _ v }
