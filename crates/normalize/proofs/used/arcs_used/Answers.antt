use Rattle.std.proofs.Common.{◌∙◌, ap, false, refl, replicate, true}
use Rattle.theory.specs.Lists.{gathered}
use Rattle.arcs.specs.ArcMarks.{marks_set}
use Rattle.arcs.proofs.SetMarks.{marks_more}
use Rattle.topo.specs.UsedArcs.{body_refs, layer_refs, layers_refs}
use Rattle.normalize.proofs.used.arcs_used.Goals as goal

pub loop-layer-preserved : goal.loop-layer-preserved
loop-layer-preserved c =
    marks_more layers_refs layer_refs c.args.layers.now c.loop-layer.layer-index c.layer-item.result c.loop-layer.marks c.mark_geometries.new.marks
    (marks_set true (replicate c.args.count false) (layers_refs c.args.layers.now)) (λ l rest. refl) c.loop-layer-test.true c.layer-item.is
    (c.mark_geometries.ensures ∙ ap (λ gs. marks_set true c.loop-layer.marks (gathered (λ g. body_refs g.body) gs)) c.geometries.ensures) c.loop-layer.invariant
