use Rattle.totals.proofs.Summing.{line_law}
use Rattle.totals.proofs.laws.line_adds_up.Goals as goal

pub returns : goal.returns
returns c = line_law
