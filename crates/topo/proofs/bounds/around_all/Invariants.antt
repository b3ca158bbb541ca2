use Rattle.std.proofs.Common.{◌≡◌, ◌++◌, None, drop}
use Rattle.theory.specs.Lists.{gathered, joined}
use Rattle.topo.specs.Box.{box_by, numbers_of}
use Rattle.topo.specs.Points.{layer_points}
use Rattle.topo.proofs.bounds.around_all.Given as goal

abbrev pub invariant-loop-layer : goal.invariant-loop-layer
invariant-loop-layer l =
    box_by numbers_of l.corners (gathered layer_points (drop l.layer-index l.fn.layers))
    ≡ box_by numbers_of None (joined l.fn.arcs.arcs ++ gathered layer_points l.fn.layers)
