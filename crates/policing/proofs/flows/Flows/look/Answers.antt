use Rattle.std.proofs.Common.{sym, subst}
use Rattle.policing.specs.Flows.{LookedBy}
use Rattle.policing.proofs.KindTables.{looked_conversation, looked_station}
use Rattle.policing.proofs.flows.Flows.look.Goals as goal

pub returns-in-Conversation : goal.returns-in-Conversation
returns-in-Conversation g c =
    subst (λ k. LookedBy c.args.self.now k c.look_in.result) (sym c.in-Conversation.is) (looked_conversation c.args.self.now c.in-Conversation.key c.look_in.result c.look_in.ensures)

pub returns-in-Station : goal.returns-in-Station
returns-in-Station g c =
    subst (λ k. LookedBy c.args.self.now k c.look_in-in-Station.result) (sym c.in-Station.is) (looked_station c.args.self.now c.in-Station.key c.look_in-in-Station.result c.look_in-in-Station.ensures)
