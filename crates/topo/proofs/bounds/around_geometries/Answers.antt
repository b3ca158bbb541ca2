use Rattle.std.proofs.Common.{◌∙◌, ap}
use Rattle.topo.specs.Points.{geometry_points}
use Rattle.topo.specs.Box.{box_by, numbers_of}
use Rattle.topo.proofs.ArcsLeft.{gathered_step}
use Rattle.topo.proofs.SeenForms.{points_seen}
use Rattle.topo.proofs.bounds.around_geometries.Goals as goal

pub loop-geometry-preserved : goal.loop-geometry-preserved
loop-geometry-preserved c =
    gathered_step geometry_points numbers_of c.loop-geometry.corners c.around-corners.result c.args.geometries.now c.loop-geometry.geometry-index
    c.geometry-item.result c.loop-geometry-test.true c.geometry-item.is
    (c.around-corners.ensures ∙ ap (box_by numbers_of c.loop-geometry.corners) (c.points.ensures ∙ points_seen c.geometry-item.result.body))
    ∙ c.loop-geometry.invariant
