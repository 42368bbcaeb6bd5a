use Rattle.std.proofs.Common.{◌≡◌, ℕ, List, Some, None, Ok, ok_or, Option, Result, refl, subst, rules}
use Rattle.packet.specs.declared.kinds.Class.{Class}
use Rattle.packet.specs.Kinds.{class_of}
use Rattle.policy_words.specs.declared.causes.Cause.{Cause}
use Rattle.policy_words.specs.declared.causes.Cause.TheVariants.{Form}
use Rattle.policy_words.specs.Words.{then, field, judged, Reads}
use Rattle.policy_words.specs.Choices.{as_class, class_word_of}
use Rattle.policy_words.proofs.choices.class_word.Goals as goal

-- the check of a class
abbrev of : ℕ → Result Class Cause
of n = ok_or (class_of n) Form

alike : (o : Option Class) (t : List ℕ) → then (ok_or o Form) (λ a. Ok (a, t)) ≡ as_class o t
alike (Some c) t = refl
alike None t = refl

word : (t : List ℕ) → judged of t ≡ class_word_of t
unfolding class_word_of
word t i = then (field t) (λ p. alike (class_of p.0) p.1 i)

pub returns : goal.returns
returns c =
    let t = c.args.text.now in
    subst (Reads c.count_as.result) (word t) (c.count_as.ensures of (λ n r l h. search rules))
