use Rattle.std.proofs.Common.{◌≡◌, ◌++◌, drop}
use Rattle.refine.specs.Borrowed.{all_borrowed}
use Rattle.refine.specs.LeftLists.{layers_ends}
use Rattle.refine.proofs.remove.line_ends.Given as goal

abbrev pub invariant-loop-layer : goal.invariant-loop-layer
invariant-loop-layer l =
    l.ends.items ++ layers_ends l.fn.topology.arcs.arcs (all_borrowed (drop l.layer-index l.fn.layers))
    ≡ layers_ends l.fn.topology.arcs.arcs (all_borrowed l.fn.layers)
