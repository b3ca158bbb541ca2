-- The geometries that are left of a topology, by the arcs that are joined again, are the parts of the topology of what is left.
use Rattle.std.proofs.Common.{◌≡◌, List, [], ◌∷◌, refl, sym, subst}
use Rattle.std.specs.Prelude.{map as map_list, None}
use Rattle.grid.specs.declared.pos.Pos.{Pos}
use Rattle.lines.specs.Turned.{position_cmp}
use Rattle.shapes.specs.Maps.{Layers}
use Rattle.arcs.specs.Arcs.{Arcs}
use Rattle.chains.specs.Seen.{geometry_of, seen}
use Rattle.arcs.specs.Table.{IsTableOf}
use Rattle.theory.specs.ArcNumbers.{ArcRef}
use Rattle.theory.specs.Geometry.{JunctionOf}
use Rattle.theory.specs.Lists.{Pairwise}
use Rattle.theory.specs.Refinement.{IsRefinementOf}
use Rattle.theory.specs.Healing.{AreStarts, Starts, healed_list, healed_body, healed_layer, healed_ring_list}
use Rattle.theory.specs.HealingLaws.{IsLeft}
use Rattle.theory.specs.Topology.{IsLayerOf}
use Rattle.theory.proofs.HealingProved as law
use Rattle.topo.specs.OfMap.{ArePartsOf, item_of, layer_of}
use Rattle.topo.specs.Parts.{LayerParts}
use Rattle.topo.specs.declared.geom.Geom.{Geom}
use Rattle.topo.specs.LayerLaws.Less.{geometry_over_healed, layer_over_healed, remaining_layers, less, marks_of}
use Rattle.topo.proofs.LayerLawsLemmas.LeftGeometries.{remaining_geometries, is_left}
use Rattle.topo.proofs.LayerLawsLemmas.RecutGeometries.{body_seen}

module _ (arcs : List (List Pos)) (starts : Starts) where
  items_seen : (gs : List Geom) →
      map_list item_of (map_list (geometry_over_healed arcs starts) gs)
      ≡ map_list (λ h. record { info = h.info; form = healed_body position_cmp arcs starts h.form }) (map_list item_of gs)
  items_seen [] = refl
  items_seen (g ∷ gs) = λ i. record { info = (g.id, g.props); form = body_seen (healed_list starts 0) (healed_ring_list position_cmp arcs starts) g.body i } ∷ items_seen gs i

  -- layers whose arcs are joined, as the definitions see them
  pub layers_over_healed_seen : (ls : List LayerParts) →
      map_list layer_of (map_list (layer_over_healed arcs starts) ls) ≡ map_list (healed_layer position_cmp arcs starts) (map_list layer_of ls)
  layers_over_healed_seen [] = refl
  layers_over_healed_seen (l ∷ ls) = λ i. record { name = (layer_of l).name; items = items_seen l.geometries i } ∷ layers_over_healed_seen ls i

-- geometries of a map's arcs that are those of what is left, by the new arcs
pub parts_healed : (n m : Layers) (old new : Arcs) (olds : List LayerParts) (pieces : List (List ArcRef)) (starts : Starts) →
    IsLeft position_cmp (geometry_of n) (geometry_of m) old.arcs →
    Pairwise (IsLayerOf position_cmp (JunctionOf (geometry_of m)) old.arcs) (seen n) (map_list layer_of olds) →
    IsTableOf (geometry_of n) new →
    IsRefinementOf position_cmp (geometry_of n) (geometry_of m) new.arcs old.arcs pieces → AreStarts pieces starts →
    ArePartsOf n new (map_list (layer_over_healed new.arcs starts) olds)
parts_healed n m old new olds pieces starts left are table cut recorded = record {
  table = table;
  layers = subst (Pairwise (IsLayerOf position_cmp (JunctionOf (geometry_of n)) new.arcs) (seen n)) (sym (layers_over_healed_seen new.arcs starts olds))
      (law.topology_of_what_is_left {G = Unit {0}} {B = Unit {0}} position_cmp (λ g l. None) tt (seen m) (seen n) old.arcs left (map_list layer_of olds) are new.arcs pieces starts
      ((law.joined_arcs_are_the_arcs position_cmp (geometry_of n) (geometry_of m) old.arcs left new.arcs pieces).1 cut) recorded).layers;
}

-- the parts of m's topology, without the geometries of r's features, are those of what is left
pub parts_left : (m r : Layers) (old new : Arcs) (ls : List LayerParts) (pieces : List (List ArcRef)) (starts : Starts) →
    ArePartsOf m old ls →
    IsTableOf (geometry_of (less m r)) new →
    IsRefinementOf position_cmp (geometry_of (less m r)) (geometry_of m) new.arcs old.arcs pieces → AreStarts pieces starts →
    ArePartsOf (less m r) new (map_list (layer_over_healed new.arcs starts) (remaining_layers (marks_of m r) ls))
parts_left m r old new ls pieces starts of table cut recorded =
    parts_healed (less m r) m old new (remaining_layers (marks_of m r) ls) pieces starts
    (is_left m r old.arcs ls of.layers of.table.arcs)
    (remaining_geometries m r old.arcs ls of.layers)
    table cut recorded
