-- The text that is written of a topology is the canonical text of its map, and is read back.
use Rattle.std.proofs.Common.{◌≡◌, ◌∙◌, ◌<◌, ◌^◌, ℕ, List, length, ap, subst, sym}
use Rattle.grid.specs.Place.{Transform, IsTransform}
use Rattle.shapes.specs.Fitting.{MapFits}
use Rattle.shapes.specs.Maps.{Layers}
use Rattle.topo.specs.OfMap.{IsOf, seen_parts}
use Rattle.topo.specs.Parts.{TopologyParts}
use Rattle.topo.proofs.TopologyLaws.{is_computed}
use Rattle.topo_io.specs.Canon.{canon}
use Rattle.topo_io.specs.Means.{Means}
use Rattle.topo_io.specs.TopologyText.{topology_text}
use Rattle.round_trip.proofs.OfMap.{built_topology_is_read}

module _ (t : TopologyParts) (m : Layers) (g : Transform) (text : List ℕ) (of_map : IsOf m t) (on : t.grid ≡ g) (is : text ≡ topology_text (seen_parts t)) where
  pub is_canon : text ≡ canon g m
  is_canon = is ∙ ap topology_text (is_computed t.grid m (seen_parts t) of_map.topology) ∙ ap (λ h. canon h m) on

  pub is_read : IsTransform t.grid → length t.arcs.arcs < 2 ^ 63 → MapFits g m → Means text g m
  is_read limits few fits =
      subst (λ h. Means text h m) on
      (built_topology_is_read t.grid m t text of_map.topology of_map limits few is (subst (λ h. MapFits h m) (sym on) fits))
