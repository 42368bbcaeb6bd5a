use Rattle.std.proofs.Common.{◌≡◌, [], ◌∷◌, ◌++◌, None, Some, sym, ◌∙◌, refl, arith}
use Rattle.std.proofs.lemmas.Slice.Eq.{strip_suffix_is}
use Rattle.std.proofs.lemmas.Bool.Decides.{Decides-eqb}
use Rattle.policy_text.proofs.Splits.{same_front}
use Rattle.policy_text.proofs.reader.cut.Goals as goal

pub returns-in_default : goal.returns-in_default
returns-in_default c = (refl, λ p e. absurd (strip_suffix_is Decides-eqb c.args.line.now (10 ∷ []) None c.in_default.ensures.cases p e))

pub returns-then-front-gt-LONGEST_LINE : goal.returns-then-front-gt-LONGEST_LINE
returns-then-front-gt-LONGEST_LINE c =
    let s : c.args.line.now ≡ c.in-Some.front.now ++ 10 ∷ [] = strip_suffix_is Decides-eqb c.args.line.now (10 ∷ []) (Some c.in-Some.front) c.in-Some.ensures.cases in
    (refl, λ p e. omega (arith, c.if-front-gt-LONGEST_LINE.true, same_front p c.in-Some.front.now (sym e ∙ s)))

pub returns : goal.returns
returns c =
    let s : c.args.line.now ≡ c.in-Some.front.now ++ 10 ∷ [] = strip_suffix_is Decides-eqb c.args.line.now (10 ∷ []) (Some c.in-Some.front) c.in-Some.ensures.cases in
    (s, c.if-front-gt-LONGEST_LINE.false)
