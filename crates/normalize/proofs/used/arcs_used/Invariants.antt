use Rattle.std.proofs.Common.{◌≡◌, drop, false, replicate, true}
use Rattle.arcs.specs.ArcMarks.{marks_set}
use Rattle.topo.specs.UsedArcs.{layers_refs}
use Rattle.normalize.proofs.used.arcs_used.Given as goal

abbrev pub invariant-loop-layer : goal.invariant-loop-layer
invariant-loop-layer l =
    marks_set true l.marks (layers_refs (drop l.layer-index l.fn.layers)) ≡ marks_set true (replicate l.fn.count false) (layers_refs l.fn.layers)
