use Rattle.std.proofs.Common.{◌≡◌, None}
use Rattle.theory.specs.Lists.{joined}
use Rattle.topo.specs.Box.{box_by, numbers_of}
use Rattle.topo.proofs.bounds.around_arcs.Given as goal

abbrev pub invariant-loop-arc : goal.invariant-loop-arc
invariant-loop-arc l = box_by numbers_of l.corners (joined l.arc-iterator) ≡ box_by numbers_of None (joined l.fn.arcs.arcs)
