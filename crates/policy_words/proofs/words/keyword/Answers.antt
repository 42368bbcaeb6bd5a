use Rattle.std.proofs.Common.{◌≡◌, ◌++◌, Some, None, Ok, Err, ap, ◌∙◌, rules}
use Rattle.std.proofs.lemmas.Slice.Eq.{strip_prefix_is}
use Rattle.std.proofs.lemmas.Bool.{cond-false}
use Rattle.std.proofs.lemmas.Bool.Decides.{Decides-eqb}
use Rattle.policy_words.specs.declared.causes.Cause.TheVariants.{Form}
use Rattle.policy_words.specs.Words.{lit}
use Rattle.policy_words.proofs.Readings.{lit_on, lit_forth, lit_not}
use Rattle.policy_words.proofs.words.keyword.Goals as goal

pub returns-in_default : goal.returns-in_default
returns-in_default c = lit_not _ _ (strip_prefix_is Decides-eqb c.args.text.now c.args.word.now None c.in_default.ensures.cases)

pub returns-in_err-word_end : goal.returns-in_err-word_end
returns-in_err-word_end c =
    let e : c.args.text.now ≡ c.args.word.now ++ c.in-Some.rest.now = strip_prefix_is Decides-eqb c.args.text.now c.args.word.now (Some c.in-Some.rest) c.in-Some.ensures.cases in
    let h : lit c.args.word.now c.args.text.now ≡ Err Form = ap (lit c.args.word.now) e ∙ lit_on c.args.word.now c.in-Some.rest.now ∙ cond-false _ (Ok c.in-Some.rest.now) (Err Form) c.in_err-word_end.ensures.1 in
    search rules

pub returns : goal.returns
returns c =
    let e : c.args.text.now ≡ c.args.word.now ++ c.in-Some.rest.now = strip_prefix_is Decides-eqb c.args.text.now c.args.word.now (Some c.in-Some.rest) c.in-Some.ensures.cases in
    ap (lit c.args.word.now) e ∙ lit_forth c.args.word.now c.in-Some.rest.now c.in_ok-word_end.ensures
