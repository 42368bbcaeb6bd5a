use Rattle.paths.proofs.Numbered.{node_charged}
use borrow.Rule.Slice.AtParam.{twice}
use Rattle.std.proofs.Common.{get_or, arith}
use Rattle.paths.proofs.charging.charge_node.Goals as goal

pub returns-then-at-nodes : goal.returns-then-at-nodes
returns-then-at-nodes g c =
    let a = c.args in
    let i = c.in-Some.at in
    let x = get_or a.nodes.now i c.index-nodes-at.result in
    node_charged g.M.Meter.meaning a.nodes.now a.node a.load a.colour i x c.charge.new.self c.charge.result (omega arith) c.if-at-nodes.true (twice a.nodes.now i c.index-nodes-at.result) c.charge.ensures.charged
