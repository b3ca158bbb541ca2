use Rattle.std.proofs.Common.{◌≡◌, drop, true}
use Rattle.theory.specs.Lists.{gathered}
use Rattle.arcs.specs.ArcMarks.{marks_set}
use Rattle.topo.specs.UsedArcs.{body_refs}
use Rattle.normalize.proofs.used.mark_geometries.Given as goal

abbrev pub invariant-loop-geometry : goal.invariant-loop-geometry
invariant-loop-geometry l =
    marks_set true l.marks (gathered (λ g. body_refs g.body) (drop l.geometry-index l.fn.geometries))
    ≡ marks_set true l.fn.marks (gathered (λ g. body_refs g.body) l.fn.geometries)
