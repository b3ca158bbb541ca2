use Rattle.std.proofs.Common.{◌≡◌, drop}
use Rattle.shapes.specs.Parts.{spelled_text}
use Rattle.theory.specs.Lists.{Has}
use Rattle.topo.specs.Parts.{LayerParts}
use Rattle.topo.proofs.topology.find_geometries.Given as goal

abbrev pub invariant-loop-layer : goal.invariant-loop-layer
invariant-loop-layer l = (k : LayerParts) → Has k l.fn.layers → spelled_text k.name ≡ l.fn.name → Has k (drop l.layer-index l.fn.layers)
