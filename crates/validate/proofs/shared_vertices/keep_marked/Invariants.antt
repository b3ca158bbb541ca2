use Rattle.std.proofs.Common.{◌≡◌, ◌++◌, drop}
use Rattle.lines.specs.PositionFilter.{may_hold}
use Rattle.theory.specs.TopologyFunction.{keep}
use Rattle.validate.proofs.shared_vertices.keep_marked.Given as goal

abbrev pub invariant-loop-vertex : goal.invariant-loop-vertex
invariant-loop-vertex l = l.kept.items ++ keep (may_hold l.fn.bits) (drop l.vertex-index l.vertices) ≡ keep (may_hold l.fn.bits) l.fn.vertices
