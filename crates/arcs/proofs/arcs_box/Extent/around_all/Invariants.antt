use Rattle.std.proofs.Common.{drop, ◌⊎◌}
use Rattle.theory.specs.Lists.{Has}
use Rattle.arcs.specs.Arcs.{Arcs}
use Rattle.arcs.specs.Extents.{within}
use Rattle.arcs.specs.Holding.{HoldAll}
use Rattle.arcs.proofs.arcs_box.Extent.around_all.Given as goal

abbrev pub invariant-loop-table : goal.invariant-loop-table
invariant-loop-table l = (t : Arcs) → Has t l.fn.tables → Has t (drop l.table-index l.fn.tables) ⊎ HoldAll (within l.extent) t.arcs
