use Rattle.std.proofs.Common.{List, length}
use Rattle.shapes.specs.Maps.{Layers}
use Rattle.theory.specs.Lists.{Pairwise}
use Rattle.refine.specs.ManyLayers.{AreLayersOf, layers_in}
use Rattle.refine.proofs.ManyParts.{AreLeft}
use Rattle.refine.proofs.cut_all.layers_of_all.Given as goal

abbrev pub invariant-rounds : goal.invariant-rounds
invariant-rounds l = (u : Layers) (maps : List Layers) → Pairwise (AreLayersOf u l.fn.arcs.arcs) maps (layers_in l.fn.lists.items) → AreLeft u l.fn.arcs.arcs maps (layers_in l.left.items)

abbrev pub decreases-rounds : goal.decreases-rounds
decreases-rounds l = length l.left.items
