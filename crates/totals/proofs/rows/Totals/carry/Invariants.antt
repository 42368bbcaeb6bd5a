use Rattle.std.proofs.Common.{◌≡◌, drop}
use Rattle.totals.specs.Totals.{bumped_all}
use Rattle.totals.proofs.rows.Totals.carry.Given as goal

abbrev pub invariant-loop-node : goal.invariant-loop-node
invariant-loop-node l =
    let before = l.initial.self in
    let now = l.self in
    record before { rows = bumped_all before.rows l.path l.fn.colour l.fn.size.0 } ≡ record now { rows = bumped_all now.rows (drop l.node-index l.path) l.fn.colour l.fn.size.0 }
