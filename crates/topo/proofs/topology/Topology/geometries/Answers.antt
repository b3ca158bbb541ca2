use Rattle.std.proofs.Common.{◌≡◌, IfSome, IfNone, subst}
use Rattle.shapes.specs.Parts.{spelled_text}
use Rattle.theory.specs.Lists.{Has}
use Rattle.topo.specs.Parts.{LayerParts, IsOfLayerNamed}
use Rattle.topo.proofs.topology.Topology.geometries.Goals as goal

pub returns-clause-found : goal.returns-clause-found
returns-clause-found c =
    subst (λ ls. IfSome c.find_geometries.result (λ gs. IsOfLayerNamed ls c.args.name.now gs.now)) c.layers.ensures.layers c.find_geometries.ensures.found

pub returns-clause-none : goal.returns-clause-none
returns-clause-none c =
    subst (λ ls. IfNone c.find_geometries.result ((l : LayerParts) → Has l ls → ¬ (spelled_text l.name ≡ c.args.name.now))) c.layers.ensures.layers c.find_geometries.ensures.none
