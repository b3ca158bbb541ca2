use Rattle.std.proofs.Common.{refl, true}
use Rattle.theory.specs.Lists.{gathered}
use Rattle.arcs.specs.ArcMarks.{marks_set}
use Rattle.arcs.proofs.SetMarks.{marks_more}
use Rattle.topo.specs.UsedArcs.{body_refs}
use Rattle.normalize.proofs.used.mark_geometries.Goals as goal

pub loop-geometry-preserved : goal.loop-geometry-preserved
loop-geometry-preserved c =
    marks_more (gathered (λ g. body_refs g.body)) (λ g. body_refs g.body) c.args.geometries.now c.loop-geometry.geometry-index c.geometry-item.result
    c.loop-geometry.marks c.mark_body.new.marks (marks_set true c.args.marks.now (gathered (λ g. body_refs g.body) c.args.geometries.now))
    (λ g rest. refl) c.loop-geometry-test.true c.geometry-item.is c.mark_body.ensures c.loop-geometry.invariant
