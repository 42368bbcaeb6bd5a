-- A packet on its way along a path, by the states of the meters.
-- Taken: what a judgement comes to
-- Assumes nothing.
use Rattle.std.specs.Prelude.{◌≡◌, List, map, Ok, Err}
use Rattle.meter.specs.declared.measures.State.{State}
use Rattle.paths.specs.Layers.{layers_of, left_by, charged_nodes}
use Rattle.history.specs.Answers.{Answer}
use Rattle.policing.specs.declared.judging.Passage.{Passage}

-- a carried packet is charged to the flow's meter and each node of its path, and another to none
abbrev pub Taken : {M : Type 0} → (M → State) → Passage → M → M → List M → List M → Answer → Type 0
Taken f w m m' ns ns' (Ok c) = (f m' ≡ left_by w.load c (f m)) × (map f ns' ≡ charged_nodes w.load c (map f ns) (layers_of w.path))
Taken f w m m' ns ns' (Err e) = (m' ≡ m) × (ns' ≡ ns)
