-- The parts that a join of two topologies makes are those of the union of their maps.
use Rattle.std.proofs.Common.{◌≡◌, List, sym, ap, ◌∙◌, subst}
use Rattle.std.specs.Prelude.{map as map_list}
use Rattle.std.specs.FinMap as map
use Rattle.grid.specs.declared.pos.Pos.{Pos}
use Rattle.lines.specs.Turned.{position_cmp}
use Rattle.shapes.specs.Maps.{Layers}
use Rattle.shapes.specs.Union.{union}
use Rattle.arcs.specs.Arcs.{Arcs}
use Rattle.chains.specs.Seen.{geometry_of, seen}
use Rattle.arcs.specs.Table.{IsTableOf}
use Rattle.theory.specs.Geometry.{Geometry, IsSound, JunctionOf}
use Rattle.theory.specs.Lists.{Pairwise}
use Rattle.theory.specs.Refinement.{IsUnionOf}
use Rattle.theory.specs.Topology.{IsLayerOf}
use Rattle.topo.proofs.GeometryOrderLemmas.NodedTables.{table_noded}
use Rattle.topo.specs.GeometryOrder.Noded.{AreNoded}
use Rattle.split_heal.specs.Cutting.{IsRecutOf}
use Rattle.split_heal.specs.SplitParts.{RecutParts}
use Rattle.topo.specs.OfMap.{ArePartsOf, IsOf, layer_of}
use Rattle.topo.specs.Parts.{LayerParts, TopologyParts}
use Rattle.topo.proofs.Sound.{are_sound}
use Rattle.topo.specs.LayerLaws.Cuts.{entries_united}
use Rattle.topo.specs.GeometryOrder.{LayersHaveFeatures}
use Rattle.topo.specs.LayerLaws.CutLayers.{layer_recut, layers_merged}
use Rattle.topo.proofs.LayerLawsLemmas.JoinedLayers.{IsJoinedLayer, parts_joined}
use Rattle.topo.proofs.LayerLawsLemmas.JoinedPairs.{cut_layers, layers_have, layers_joined}
use Rattle.topo.proofs.LayerLawsLemmas.RecutGeometries.{IsLayerRecut, layers_after_recut}
use Rattle.topo.proofs.LayerLawsLemmas.UnitedGeometry.{geometries_unite}

-- the layers of both sides of a recut
module _ (m n : Layers) (left right : Arcs) (r : RecutParts) (is : IsRecutOf (geometry_of m) (geometry_of n) (geometry_of (union m n)) left right r) where
  pub left_after_recut : (ls : List LayerParts) → Pairwise (IsLayerOf position_cmp (JunctionOf (geometry_of m)) left.arcs) (seen m) (map_list layer_of ls) →
      Pairwise (IsLayerRecut (JunctionOf (geometry_of (union m n))) r.arcs.arcs r.left) (map.entries m) ls
  left_after_recut = layers_after_recut m (union m n) (geometries_unite m n).left left.arcs r.arcs.arcs r.left is.of_left

  pub right_after_recut : (ls : List LayerParts) → Pairwise (IsLayerOf position_cmp (JunctionOf (geometry_of n)) right.arcs) (seen n) (map_list layer_of ls) →
      Pairwise (IsLayerRecut (JunctionOf (geometry_of (union m n))) r.arcs.arcs r.right) (map.entries n) ls
  right_after_recut = layers_after_recut n (union m n) (geometries_unite m n).right right.arcs r.arcs.arcs r.right is.of_right

-- what a join has before it merges the layers
pub record AreCut (left right : TopologyParts) (r : RecutParts) (arcs : Arcs) (ls ks : List LayerParts) : Type 0 where
  pub refined : (m n u : Geometry Pos) → IsSound m → IsSound n → IsTableOf m left.arcs → IsTableOf n right.arcs → IsUnionOf m n u → IsRecutOf m n u left.arcs right.arcs r
  pub arcs_are : arcs ≡ r.arcs
  pub left_layers : ls ≡ map_list (layer_recut r.arcs.arcs r.left) left.layers
  pub right_layers : ks ≡ map_list (layer_recut r.arcs.arcs r.right) right.layers

-- from the arcs and the layers that two topologies hand over
pub are_cut : {left right : TopologyParts} {la ra : Arcs} {lls rls : List LayerParts} {r : RecutParts} {arcs : Arcs} {ls ks : List LayerParts} →
    la ≡ left.arcs → ra ≡ right.arcs → lls ≡ left.layers → rls ≡ right.layers →
    ((m n u : Geometry Pos) → IsSound m → IsSound n → IsTableOf m la → IsTableOf n ra → IsUnionOf m n u → IsRecutOf m n u la ra r) → arcs ≡ r.arcs →
    ls ≡ map_list (layer_recut r.arcs.arcs r.left) lls → ks ≡ map_list (layer_recut r.arcs.arcs r.right) rls → AreCut left right r arcs ls ks
are_cut {left = left} {right = right} {ra = ra} {r = r} a b l k refined e p q = record {
  refined = subst (λ t. (m n u : Geometry Pos) → IsSound m → IsSound n → IsTableOf m left.arcs → IsTableOf n t → IsUnionOf m n u → IsRecutOf m n u left.arcs t r) b
      (subst (λ t. (m n u : Geometry Pos) → IsSound m → IsSound n → IsTableOf m t → IsTableOf n ra → IsUnionOf m n u → IsRecutOf m n u t ra r) a refined);
  arcs_are = e;
  left_layers = p ∙ ap (map_list (layer_recut r.arcs.arcs r.left)) l;
  right_layers = q ∙ ap (map_list (layer_recut r.arcs.arcs r.right)) k;
}

module _ {left right : TopologyParts} {r : RecutParts} {arcs : Arcs} {ls ks : List LayerParts} (cut : AreCut left right r arcs ls ks)
    (m n : Layers) (hm : IsOf m left) (hn : IsOf n right) where
  abbrev J : Pos → Type 0
  J = JunctionOf (geometry_of (union m n))

  is_recut : IsRecutOf (geometry_of m) (geometry_of n) (geometry_of (union m n)) left.arcs right.arcs r
  is_recut = cut.refined (geometry_of m) (geometry_of n) (geometry_of (union m n)) (are_sound m) (are_sound n) hm.table hn.table (geometries_unite m n)

  of_left : Pairwise (IsJoinedLayer J arcs.arcs) (map.entries m) ls
  of_left =
      subst (λ t. Pairwise (IsJoinedLayer J t.arcs) (map.entries m) ls) (sym cut.arcs_are)
      (subst (Pairwise (IsJoinedLayer J r.arcs.arcs) (map.entries m)) (sym cut.left_layers)
      (cut_layers J r.arcs.arcs r.left (map.entries m) left.layers (left_after_recut m n left.arcs right.arcs r is_recut left.layers hm.topology.layers)))

  of_right : Pairwise (IsJoinedLayer J arcs.arcs) (map.entries n) ks
  of_right =
      subst (λ t. Pairwise (IsJoinedLayer J t.arcs) (map.entries n) ks) (sym cut.arcs_are)
      (subst (Pairwise (IsJoinedLayer J r.arcs.arcs) (map.entries n)) (sym cut.right_layers)
      (cut_layers J r.arcs.arcs r.right (map.entries n) right.layers (right_after_recut m n left.arcs right.arcs r is_recut right.layers hn.topology.layers)))

  pub arcs_noded : AreNoded arcs.arcs
  arcs_noded = table_noded (geometry_of (union m n)) arcs (subst (IsTableOf (geometry_of (union m n))) (sym cut.arcs_are) is_recut.table)

  pub left_has : LayersHaveFeatures arcs.arcs ls
  left_has = layers_have J arcs.arcs (map.entries m) ls of_left

  pub right_has : LayersHaveFeatures arcs.arcs ks
  right_has = layers_have J arcs.arcs (map.entries n) ks of_right

  -- the layers of both are the parts of the union's topology
  pub parts_are : (all : List LayerParts) → all ≡ layers_merged arcs.arcs ls ks → ArePartsOf (union m n) arcs all
  parts_are all e =
      parts_joined m n arcs all (subst (IsTableOf (geometry_of (union m n))) (sym cut.arcs_are) is_recut.table)
      (subst (Pairwise (IsJoinedLayer J arcs.arcs) (entries_united (map.entries m) (map.entries n))) (sym e)
      (layers_joined J arcs.arcs (map.entries m) (map.entries n) ls ks of_left of_right))
