use Rattle.arcs.specs.Extents.{within}
use Rattle.arcs.proofs.ArcsHeld.{ArcsAreLeft}
use Rattle.arcs.proofs.arcs_box.Extent.find.Given as goal

abbrev pub invariant-loop-arc : goal.invariant-loop-arc
invariant-loop-arc l = ArcsAreLeft (within l.extent) l.fn.table.arcs l.arc-iterator
