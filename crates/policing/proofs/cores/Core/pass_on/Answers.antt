use Rattle.std.proofs.Common.{◌≡◌, map, vec_items, refl, ap, ◌∙◌}
use Rattle.std.specs.Vec.{with_items}
use Rattle.std.proofs.lemmas.List.{with_items_is}
use Rattle.paths.specs.Layers.{layers_of, charged_nodes}
use Rattle.policing.proofs.Moves.{came_carried}
use Rattle.policing.proofs.cores.Core.pass_on.Goals as goal

pub returns-clause-came : goal.returns-clause-came
returns-clause-came g c =
    let a = c.args in
    let f = g.M.Meter.meaning in
    let v = a.self.now.nodes in
    let w = a.passage.now in
    let items : vec_items (with_items v c.pass.new.nodes) ≡ c.pass.new.nodes = with_items_is v c.pass.new.nodes (c.pass.auto.nodes ∙ c.deref_mut.ensures.len) in
    let taken = c.in_ok-colour.ensures.taken in
    came_carried f a.self.now _ w.load a.key (layers_of w.path) (f a.start) c.pass.new.flow c.in_ok-colour.colour
    (ap (map f) items ∙ taken.1 ∙ ap (λ l. charged_nodes w.load c.in_ok-colour.colour (map f l) (layers_of w.path)) c.deref_mut.ensures.value) taken.0 c.keep.ensures.same refl refl refl a.row _ refl c.keep.ensures.keeps
