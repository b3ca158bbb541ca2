use Rattle.std.proofs.Common.{◌≡◌, ◌++◌, ◌||◌, drop}
use Rattle.std.specs.List.{list_any}
use Rattle.theory.specs.TopologyFunction.{keep}
use Rattle.arcs.specs.Extents.{within}
use Rattle.chains.proofs.vertex_filter.add_within.Given as goal

abbrev pub invariant-loop-position : goal.invariant-loop-position
invariant-loop-position l = record {
  list : l.list.items ++ keep (within l.fn.extent) (drop l.position-index l.arc) ≡ l.fn.list.items ++ keep (within l.fn.extent) l.fn.arc;
  near : (l.near || list_any (within l.fn.extent) (drop l.position-index l.arc)) ≡ list_any (within l.fn.extent) l.fn.arc;
}
