use Rattle.std.proofs.Common.{◌≡◌, ◌&&◌, drop}
use Rattle.std.specs.List.{list_all, find}
use Rattle.meter.specs.Alone.{allowed}
use Rattle.paths.specs.Layers.{taken_by, colours}
use Rattle.paths.proofs.layers.Meters.best_colour.Given as goal

-- what is left of the colours decides
abbrev pub invariant-colours : goal.invariant-colours
invariant-colours g l =
    let F = find (λ c. allowed l.arrival c && list_all (taken_by g.M.Meter.meaning l.self l.load c) l.path) in
    F colours ≡ F (drop l.colour-index colours)

-- what is left of the path decides
abbrev pub invariant-loop-node : goal.invariant-loop-node
invariant-loop-node g l =
    let F = list_all (taken_by g.M.Meter.meaning l.self l.load l.colour) in
    F l.path ≡ F (drop l.node-index l.path)
