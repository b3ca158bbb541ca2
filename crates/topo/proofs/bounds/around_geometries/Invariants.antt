use Rattle.std.proofs.Common.{◌≡◌, drop}
use Rattle.theory.specs.Lists.{gathered}
use Rattle.topo.specs.Box.{box_by, numbers_of}
use Rattle.topo.specs.Points.{geometry_points}
use Rattle.topo.proofs.bounds.around_geometries.Given as goal

abbrev pub invariant-loop-geometry : goal.invariant-loop-geometry
invariant-loop-geometry l =
    box_by numbers_of l.corners (gathered geometry_points (drop l.geometry-index l.fn.geometries))
    ≡ box_by numbers_of l.fn.corners (gathered geometry_points l.fn.geometries)
