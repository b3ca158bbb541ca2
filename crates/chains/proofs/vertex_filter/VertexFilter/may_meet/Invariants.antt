use Rattle.std.proofs.Common.{◌≡◌, drop}
use Rattle.std.specs.List.{list_any}
use Rattle.chains.specs.VertexFilter.{may_hold}
use Rattle.chains.proofs.vertex_filter.VertexFilter.may_meet.Given as goal

abbrev pub invariant-loop-position : goal.invariant-loop-position
invariant-loop-position l = list_any (may_hold l.fn.self) (drop l.position-index l.positions) ≡ list_any (may_hold l.fn.self) l.fn.positions
