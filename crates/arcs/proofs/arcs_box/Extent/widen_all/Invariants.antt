use Rattle.std.proofs.Common.{drop}
use Rattle.arcs.specs.Extents.{within}
use Rattle.lines.proofs.Marking.{AreLeft}
use Rattle.arcs.proofs.arcs_box.Extent.widen_all.Given as goal

abbrev pub invariant-loop-position : goal.invariant-loop-position
invariant-loop-position l = AreLeft (within l.fn.self) (within l.self) l.fn.positions (drop l.position-index l.positions)
