use Rattle.std.proofs.Common.{rules}
use Rattle.kinds.specs.Kinds.{any_meaning}
use Rattle.colour.proofs.Tellings.{report_told}
use Rattle.colour.proofs.session.Session.new.Goals as goal

pub returns-clause-told : goal.returns-clause-told
returns-clause-told c = λ input. rw (← report_told (any_meaning c.args.meter) input) (search rules)
