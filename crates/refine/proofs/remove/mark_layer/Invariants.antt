use Rattle.std.proofs.Common.{◌≡◌, drop, map, true}
use Rattle.theory.specs.Lists.{gathered}
use Rattle.arcs.specs.ArcMarks.{marks_set}
use Rattle.topo.specs.UsedArcs.{body_refs}
use Rattle.refine.proofs.remove.mark_layer.Given as goal

abbrev pub invariant-loop-geometry : goal.invariant-loop-geometry
invariant-loop-geometry l =
    marks_set true l.kept (gathered (λ g. body_refs g.body) (map (λ g. g.now) (drop l.geometry-index l.geometry-items)))
    ≡ marks_set true l.fn.kept (gathered (λ g. body_refs g.body) (map (λ g. g.now) l.fn.layer.geometries.items))
