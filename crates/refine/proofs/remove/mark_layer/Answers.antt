use Rattle.std.proofs.Common.{map, refl, true}
use Rattle.theory.specs.Lists.{gathered}
use Rattle.arcs.specs.ArcMarks.{marks_set}
use Rattle.arcs.proofs.SetMarks.{marks_more}
use Rattle.topo.specs.UsedArcs.{body_refs}
use Rattle.refine.proofs.remove.mark_layer.Goals as goal

pub loop-geometry-preserved : goal.loop-geometry-preserved
loop-geometry-preserved c =
    marks_more (λ gs. gathered (λ g. body_refs g.body) (map (λ g. g.now) gs)) (λ g. body_refs g.now.body) c.deref-geometry-items.result.now
    c.loop-geometry.geometry-index c.geometry-item.result c.loop-geometry.kept c.mark_body.new.marks
    (marks_set true c.args.kept.now (gathered (λ g. body_refs g.body) (map (λ g. g.now) c.args.layer.now.geometries.items)))
    (λ g rest. refl) c.loop-geometry-test.true c.geometry-item.is c.mark_body.ensures c.loop-geometry.invariant
