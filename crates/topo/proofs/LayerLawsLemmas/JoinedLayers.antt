-- The layers of two maps, united, are the layers of their union.
use Rattle.std.proofs.Common.{◌≡◌, ℕ, List, [], ◌∷◌, sym, ◌∙◌, subst}
use Rattle.std.specs.Prelude.{map as map_list}
use Rattle.std.specs.FinMap as map
use Rattle.grid.specs.declared.pos.Pos.{Pos}
use Rattle.lines.specs.Turned.{position_cmp}
use Rattle.shapes.specs.Maps.{Features, Layers}
use Rattle.shapes.specs.OrderLaws.{feature_cmp_total, same_feature}
use Rattle.shapes.specs.Parts.{spelled_text}
use Rattle.shapes.specs.Sets as set
use Rattle.shapes.specs.Union.{union}
use Rattle.shapes.specs.declared.feature.Feature.{Feature}
use Rattle.arcs.specs.Arcs.{Arcs}
use Rattle.chains.specs.Seen as seen_by
use Rattle.chains.specs.Seen.{geometry_of, seen}
use Rattle.arcs.specs.Table.{IsTableOf}
use Rattle.theory.specs.ArcNumbers.{ArcRef}
use Rattle.theory.specs.Geometry.{JunctionOf}
use Rattle.theory.specs.Lists.{Pairwise}
use Rattle.theory.specs.Topology.{IsGeometryOf, IsLayerOf}
use Rattle.topo.specs.OfMap.{ArePartsOf, item_of, layer_of}
use Rattle.topo.specs.Parts.{LayerParts}
use Rattle.topo.specs.declared.geom.Geom.{Geom}
use Rattle.topo.specs.LayerLaws.Cuts.{entries_united, features_merged, geometry_recut}
use Rattle.topo.proofs.LayerLawsLemmas.MergedLayers.{entries_of_union}
use Rattle.topo.proofs.LayerLawsLemmas.MergedSets.{items_of_union}
use Rattle.topo.proofs.LayerLawsLemmas.RecutGeometries.{IsRecutFor, IsLayerRecut}

-- the geometry is that of the feature, by the arcs of the table
abbrev pub IsNewFor : (Pos → Type 0) → List (List Pos) → Feature → Geom → Type 0
IsNewFor J table f g = IsGeometryOf position_cmp J table (seen_by.item_of f) (item_of g)

-- the layer has the entry's name, and its geometries are those of the entry's features
pub record IsJoinedLayer (J : Pos → Type 0) (table : List (List Pos)) (e : List ℕ × Features) (l : LayerParts) : Type 0 where
  pub name : e.0 ≡ spelled_text l.name
  pub items : Pairwise (IsNewFor J table) (set.items e.1) l.geometries

module _ (J : Pos → Type 0) (table : List (List Pos)) where
  geometries_recut : (pieces : List (List ArcRef)) (fs : List Feature) (hs : List Geom) → Pairwise (IsRecutFor J table pieces) fs hs →
      Pairwise (IsNewFor J table) fs (map_list (geometry_recut table pieces) hs)
  geometries_recut pieces [] [] p = tt
  geometries_recut pieces [] (h ∷ hs) p = absurd p
  geometries_recut pieces (f ∷ fs) [] p = absurd p
  geometries_recut pieces (f ∷ fs) (h ∷ hs) p = (p.0, geometries_recut pieces fs hs p.1)

  -- a layer of one map alone, its geometries cut again
  pub joined_alone : (pieces : List (List ArcRef)) (e : List ℕ × Features) (l new : LayerParts) → IsLayerRecut J table pieces e l →
      spelled_text new.name ≡ spelled_text l.name → new.geometries ≡ map_list (geometry_recut table pieces) l.geometries → IsJoinedLayer J table e new
  joined_alone pieces e l new h name is = record {
    name = h.name ∙ sym name;
    items = subst (Pairwise (IsNewFor J table) (set.items e.1)) (sym is) (geometries_recut pieces (set.items e.1) l.geometries h.items);
  }

  -- a layer of both, by the merged features
  pub joined_of_both : (e d : List ℕ × Features) (new : LayerParts) → e.0 ≡ spelled_text new.name →
      Pairwise (IsNewFor J table) (features_merged (set.items e.1) (set.items d.1)) new.geometries → IsJoinedLayer J table (e.0, set.union e.1 d.1) new
  joined_of_both e d new name h = record {
    name = name;
    items = subst (λ fs. Pairwise (IsNewFor J table) fs new.geometries) (sym (items_of_union feature_cmp_total same_feature e.1 d.1)) h;
  }

  items_seen : (fs : List Feature) (gs : List Geom) → Pairwise (IsNewFor J table) fs gs →
      Pairwise (IsGeometryOf position_cmp J table) (map_list seen_by.item_of fs) (map_list item_of gs)
  items_seen [] [] h = tt
  items_seen [] (g ∷ gs) h = absurd h
  items_seen (f ∷ fs) [] h = absurd h
  items_seen (f ∷ fs) (g ∷ gs) h = (h.0, items_seen fs gs h.1)

  layers_seen : (es : List (List ℕ × Features)) (ls : List LayerParts) → Pairwise (IsJoinedLayer J table) es ls →
      Pairwise (IsLayerOf position_cmp J table) (map_list seen_by.layer_of es) (map_list layer_of ls)
  layers_seen [] [] h = tt
  layers_seen [] (l ∷ ls) h = absurd h
  layers_seen (e ∷ es) [] h = absurd h
  layers_seen (e ∷ es) (l ∷ ls) h = (record { name = h.0.name; items = items_seen (set.items e.1) l.geometries h.0.items }, layers_seen es ls h.1)

-- the layers of both maps, united, are the parts of the union's topology
pub parts_joined : (m n : Layers) (t : Arcs) (ls : List LayerParts) → IsTableOf (geometry_of (union m n)) t →
    Pairwise (IsJoinedLayer (JunctionOf (geometry_of (union m n))) t.arcs) (entries_united (map.entries m) (map.entries n)) ls → ArePartsOf (union m n) t ls
parts_joined m n t ls table h = record {
  table = table;
  layers = layers_seen (JunctionOf (geometry_of (union m n))) t.arcs (map.entries (union m n)) ls
      (subst (λ es. Pairwise (IsJoinedLayer (JunctionOf (geometry_of (union m n))) t.arcs) es ls) (sym (entries_of_union m n)) h);
}
