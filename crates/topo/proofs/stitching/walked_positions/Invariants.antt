use Rattle.std.proofs.Common.{◌≡◌, ◌++◌}
use Rattle.topo.specs.Walked.{walked}
use Rattle.topo.proofs.stitching.walked_positions.Given as goal

abbrev pub invariant-loop-p : goal.invariant-loop-p
invariant-loop-p l = l.positions.items ++ l.p-iterator ≡ walked l.fn.arcs.arcs l.fn.refs
