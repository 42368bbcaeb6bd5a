use Rattle.policy_words.proofs.Digits.{number_forth}
use Rattle.policy_words.proofs.laws.numbers_read_back.Goals as goal

pub returns : goal.returns
returns c = number_forth
