use Rattle.std.proofs.Common.{◌≡◌, drop, true}
use Rattle.arcs.specs.ArcMarks.{marks_set}
use Rattle.topo.specs.UsedArcs.{layers_refs}
use Rattle.refine.specs.Borrowed.{all_borrowed}
use Rattle.refine.proofs.remove.mark_layers.Given as goal

abbrev pub invariant-loop-layer : goal.invariant-loop-layer
invariant-loop-layer l =
    marks_set true l.kept (layers_refs (all_borrowed (drop l.layer-index l.fn.layers))) ≡ marks_set true l.fn.kept (layers_refs (all_borrowed l.fn.layers))
