use Rattle.std.proofs.Common.{◌≡◌, map, drop}
use Rattle.paths.specs.Layers.{charged_nodes}
use Rattle.paths.proofs.charging.charge_nodes.Given as goal

abbrev pub invariant-loop-node : goal.invariant-loop-node
invariant-loop-node g l =
    let f = g.M.Meter.meaning in
    charged_nodes l.load l.colour (map f l.initial.nodes) l.path ≡ charged_nodes l.load l.colour (map f l.nodes) (drop l.node-index l.path)
