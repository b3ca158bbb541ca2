use Rattle.std.proofs.Common.{◌++◌, ◌∙◌, ap, sym}
use Rattle.sinks.proofs.Left.{left_step, left_part}
use Rattle.query.specs.ByArcs.{geom_text}
use Rattle.query.specs.Sequences.{lines, lines_by_arcs}
use Rattle.query.proofs.layer_text.sequence.write_layers.Goals as goal

pub loop-layer-preserved : goal.loop-layer-preserved
loop-layer-preserved g c =
    let t = c.args.topology.now in
    left_step _ c.loop-layer.invariant
    (ap (lines_by_arcs t) c.in-Some.ensures.cases.0 ∙ ap (λ gs. lines (geom_text t) gs ++ lines_by_arcs t c.in-Some.after.now) (sym c.geometries.ensures))
    c.in-Ok.ensures.whole

pub returns-in-Err-clause-part : goal.returns-in-Err-clause-part
returns-in-Err-clause-part g c =
    let t = c.args.topology.now in
    left_part _ c.loop-layer.invariant
    (ap (lines_by_arcs t) c.in-Some.ensures.cases.0 ∙ ap (λ gs. lines (geom_text t) gs ++ lines_by_arcs t c.in-Some.after.now) (sym c.geometries.ensures))
    c.in-Err.ensures.part
