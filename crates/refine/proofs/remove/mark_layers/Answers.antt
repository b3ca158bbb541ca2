use Rattle.std.proofs.Common.{refl, true}
use Rattle.arcs.specs.ArcMarks.{marks_set}
use Rattle.arcs.proofs.SetMarks.{marks_more}
use Rattle.topo.specs.UsedArcs.{layer_refs, layers_refs}
use Rattle.refine.specs.Borrowed.{all_borrowed, borrowed}
use Rattle.refine.proofs.remove.mark_layers.Goals as goal

pub loop-layer-preserved : goal.loop-layer-preserved
loop-layer-preserved c =
    marks_more (λ ls. layers_refs (all_borrowed ls)) (λ l. layer_refs (borrowed l)) c.args.layers.now c.loop-layer.layer-index c.layer-item.result c.loop-layer.kept c.mark_layer.new.kept
    (marks_set true c.args.kept.now (layers_refs (all_borrowed c.args.layers.now)))
    (λ l rest. refl) c.loop-layer-test.true c.layer-item.is c.mark_layer.ensures c.loop-layer.invariant
