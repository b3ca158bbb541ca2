use Rattle.std.proofs.Common.{◌∙◌, ap, sym}
use Rattle.std.specs.Prelude.{None}
use Rattle.theory.specs.Lists.{gathered, joined}
use Rattle.topo.specs.Box.{box_by, numbers_of}
use Rattle.topo.specs.Points.{geometry_points, layer_points}
use Rattle.topo.proofs.Boxes.{box_append}
use Rattle.topo.proofs.ArcsLeft.{gathered_step}
use Rattle.topo.proofs.bounds.around_all.Goals as goal

pub loop-layer-init : goal.loop-layer-init
loop-layer-init c =
    ap (λ w. box_by numbers_of w (gathered layer_points c.args.layers.now)) c.around_arcs-corners.ensures.corners
    ∙ sym (box_append numbers_of None (joined c.args.arcs.now.arcs) (gathered layer_points c.args.layers.now))

pub loop-layer-preserved : goal.loop-layer-preserved
loop-layer-preserved c =
    gathered_step layer_points numbers_of c.loop-layer.corners c.around_geometries-corners.result c.args.layers.now c.loop-layer.layer-index
    c.layer-item.result c.loop-layer-test.true c.layer-item.is
    (c.around_geometries-corners.ensures ∙ ap (λ w. box_by numbers_of c.loop-layer.corners (gathered geometry_points w)) c.geometries.ensures) ∙ c.loop-layer.invariant
