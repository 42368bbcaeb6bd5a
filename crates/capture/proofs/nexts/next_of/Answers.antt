-- What comes next goes on from what was handed out, and settles it.
use Rattle.std.proofs.Common.{◌≡◌, rules}
use Rattle.capture.specs.Reading.{next_of, shown_next}
use Rattle.capture.proofs.Going.{next_goes, next_settles}
use Rattle.capture.proofs.nexts.next_of.Goals as goal

pub returns-in-None-clause-goes_on : goal.returns-in-None-clause-goes_on
returns-in-None-clause-goes_on c =
    let is : shown_next c.opening.result ≡ next_of c.args.header c.args.closed c.args.place c.args.unread.now = search rules in
    next_goes c.args.header c.args.closed c.args.place c.args.unread.now (λ i. (c.type_inv.unread i).fits) (shown_next c.opening.result) is

pub returns-in-None-clause-settles : goal.returns-in-None-clause-settles
returns-in-None-clause-settles c =
    let is : shown_next c.opening.result ≡ next_of c.args.header c.args.closed c.args.place c.args.unread.now = search rules in
    next_settles c.args.header c.args.closed c.args.place c.args.unread.now (λ i. (c.type_inv.unread i).fits) (shown_next c.opening.result) is

pub returns-in-Some-clause-goes_on : goal.returns-in-Some-clause-goes_on
returns-in-Some-clause-goes_on c =
    let is : shown_next c.following.result ≡ next_of c.args.header c.args.closed c.args.place c.args.unread.now = search rules in
    next_goes c.args.header c.args.closed c.args.place c.args.unread.now (λ i. (c.type_inv.unread i).fits) (shown_next c.following.result) is

pub returns-in-Some-clause-settles : goal.returns-in-Some-clause-settles
returns-in-Some-clause-settles c =
    let is : shown_next c.following.result ≡ next_of c.args.header c.args.closed c.args.place c.args.unread.now = search rules in
    next_settles c.args.header c.args.closed c.args.place c.args.unread.now (λ i. (c.type_inv.unread i).fits) (shown_next c.following.result) is
