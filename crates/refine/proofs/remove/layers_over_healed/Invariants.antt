use Rattle.std.proofs.Common.{◌≡◌, ◌++◌, drop, map}
use Rattle.split_heal.specs.Starts.{starts_by}
use Rattle.refine.specs.Borrowed.{all_borrowed}
use Rattle.topo.specs.LayerLaws.Less.{layer_over_healed}
use Rattle.refine.proofs.remove.layers_over_healed.Given as goal

abbrev pub invariant-loop-layer : goal.invariant-loop-layer
invariant-loop-layer l =
    l.made.items ++ map (layer_over_healed l.fn.arcs.arcs.arcs (starts_by l.fn.arcs.pieces)) (all_borrowed (drop l.layer-index l.fn.layers))
    ≡ map (layer_over_healed l.fn.arcs.arcs.arcs (starts_by l.fn.arcs.pieces)) (all_borrowed l.fn.layers)
