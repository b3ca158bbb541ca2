use Rattle.std.proofs.Common.{◌≡◌, ◌++◌, drop, map}
use Rattle.shapes.specs.Maps.{Layers}
use Rattle.theory.specs.Lists.{gathered}
use Rattle.topo.specs.OfMap.{IsOf}
use Rattle.query.specs.Members.{held, layer_pairs}
use Rattle.query.proofs.members.members_of.Given as goal

abbrev pub invariant-loop-layer : goal.invariant-loop-layer
invariant-loop-layer l =
    (m : Layers) → IsOf m l.fn.topology
    → map held l.members.items ++ gathered (layer_pairs m) (drop l.layer-index l.layers) ≡ gathered (layer_pairs m) l.layers
