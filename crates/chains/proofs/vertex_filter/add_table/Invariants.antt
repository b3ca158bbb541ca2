use Rattle.std.proofs.Common.{◌≡◌, ◌++◌, map}
use Rattle.std.specs.List.{list_any}
use Rattle.theory.specs.Lists.{gathered}
use Rattle.theory.specs.TopologyFunction.{keep}
use Rattle.arcs.specs.Extents.{within}
use Rattle.chains.proofs.vertex_filter.add_table.Given as goal

abbrev pub invariant-loop-arc : goal.invariant-loop-arc
invariant-loop-arc l = record {
  list :
      l.list.items ++ gathered (keep (within l.fn.extent)) l.arc-iterator
      ≡ l.fn.list.items ++ gathered (keep (within l.fn.extent)) l.fn.table.arcs;
  near : l.near.items ++ map (list_any (within l.fn.extent)) l.arc-iterator ≡ map (list_any (within l.fn.extent)) l.fn.table.arcs;
}
