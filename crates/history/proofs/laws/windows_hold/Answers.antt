use Rattle.history.proofs.Law.{window_law}
use Rattle.history.proofs.laws.windows_hold.Goals as goal

pub returns : goal.returns
returns c = window_law
