use Rattle.std.proofs.Common.{drop}
use Rattle.validate.proofs.ComingAgain.{AreMet}
use Rattle.validate.proofs.shared_vertices.repeated_vertices.Given as goal

abbrev pub invariant-loop-vertex : goal.invariant-loop-vertex
invariant-loop-vertex l = AreMet l.met l.again.items l.fn.vertices (drop l.vertex-index l.vertices)
