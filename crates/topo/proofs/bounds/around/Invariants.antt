use Rattle.std.proofs.Common.{◌≡◌, drop}
use Rattle.topo.specs.Box.{box_by, numbers_of}
use Rattle.topo.proofs.bounds.around.Given as goal

abbrev pub invariant-loop-p : goal.invariant-loop-p
invariant-loop-p l = box_by numbers_of l.corners (drop l.p-index l.fn.positions) ≡ box_by numbers_of l.fn.corners l.fn.positions
