use Rattle.policy_text.proofs.Written.{line_back, line_forth}
use Rattle.policy_text.proofs.Firsts.{line_first}
use Rattle.policy_text.proofs.laws.lines_have_one_text.Goals as goal

pub returns : goal.returns
returns c = record { canonical = line_back; written = line_forth; first = line_first }
