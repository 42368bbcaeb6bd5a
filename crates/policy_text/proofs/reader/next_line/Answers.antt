use Rattle.std.proofs.Common.{◌≡◌, ℕ, List, Ok, length, vec_items, sym, ap, ◌∙◌, rules}
use Rattle.policy.specs.Policies.{parents_of}
use Rattle.policy_words.specs.Words.{then}
use Rattle.policy_text.specs.declared.lines.Line.{Line}
use Rattle.policy_text.specs.Lines.{line_of}
use Rattle.policy_text.specs.Policies.{lined}
use Rattle.policy_text.proofs.Splits.{match_step, step_piece, step_broken, cut_ok, cut_err}
use Rattle.policy_text.proofs.reader.next_line.Goals as goal

pub returns-in_err-front : goal.returns-in_err-front
returns-in_err-front c after first =
    let ps = parents_of c.args.policy.now.tree in
    let n = length (vec_items c.args.policy.now.rules) in
    let b = cut_err {A = Line × List ℕ} c.args.number c.args.line.now c.cut.result c.in_err-front.field-0.0 c.cut.ensures (sym c.on.ensures ∙ c.in_err-front.was) in
    let h = step_broken c.args.number ps n c.args.line.now after b.0 first ∙ b.1 in
    search rules

pub returns : goal.returns
returns c after first =
    let ps = parents_of c.args.policy.now.tree in
    let n = length (vec_items c.args.policy.now.rules) in
    let p = cut_ok c.args.number c.args.line.now c.cut.result c.in_ok-front.front c.cut.ensures (sym c.on.ensures ∙ c.in_ok-front.was) in
    let r : c.on-2.result ≡ lined c.args.number (line_of ps n c.in_ok-front.front.now) = c.on-2.ensures ∙ ap (lined c.args.number) c.read_line.ensures in
    match_step c.on-2.result _ after
    (step_piece c.args.number ps n c.args.line.now c.in_ok-front.front.now after p.0 p.1 first ∙ ap (λ x. then x (λ y. Ok (y, after))) (sym r))
