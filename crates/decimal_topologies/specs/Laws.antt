-- The law of topologies and their faults.
use Rattle.std.specs.Prelude.{◌≡◌, List, []}
use Rattle.std.specs.List.{AllByRecursion}
use Rattle.json.specs.Json.{Json}
use Rattle.fixing.specs.declared.rules.FixingRules.{FixingRules}
use Rattle.decimal_faults.specs.Laws.{AreLeft}
use Rattle.decimal_topologies.specs.Roots.{AreTopologyLayers, topology_faults}
use Rattle.decimal_topologies.specs.declared.objects.TopologyLayer.{TopologyLayer}
use Rattle.decimal_topologies.specs.declared.rules.TopologyRules.{TopologyRules}

-- the rules leave something of each feature of each layer
abbrev pub AreLayersLeft : FixingRules → List TopologyLayer → Type 0
AreLayersLeft fixing xs = AllByRecursion (λ x. AreLeft fixing x.features.items) xs

-- a topology of which the rules refuse no feature has no faults
abbrev pub TopologiesAreSound : Type 0
TopologiesAreSound = (rules : TopologyRules) (fixing : FixingRules) (j : Json) (xs : List TopologyLayer) → AreTopologyLayers rules j xs → AreLayersLeft fixing xs → topology_faults rules fixing j ≡ []
