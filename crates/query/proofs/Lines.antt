-- The lines of a layer of a name in a topology, and in its map.
use Rattle.std.proofs.Common.{◌≡◌, ℕ, List, [], ◌∷◌, ◌++◌, refl, sym, ap, ◌∙◌, subst, true}
use Rattle.std.specs.Prelude.{map as map_list}
use Rattle.std.specs.FinMap as map
use Rattle.grid.specs.declared.pos.Pos.{Pos}
use Rattle.lines.specs.Turned.{position_cmp}
use Rattle.shapes.specs.Maps.{Features, Layers, features_at}
use Rattle.shapes.specs.Sets as set
use Rattle.shapes.specs.declared.feature.Feature.{Feature}
use Rattle.geojson_io.specs.CollectionText.{feature_text}
use Rattle.theory.specs.Geometry.{JunctionOf}
use Rattle.theory.specs.Lists.{Has, Pairwise}
use Rattle.theory.specs.Topology.{IsGeometryOf}
use Rattle.theory.proofs.UsersOfArcs.{partner_back}
use Rattle.chains.specs.Seen as seen_by
use Rattle.topo.specs.OfMap.{IsOf, item_of}
use Rattle.topo.specs.Parts.{IsOfLayerNamed, LayerParts, TopologyParts}
use Rattle.topo.specs.declared.geom.Geom.{Geom}
use Rattle.shapes.proofs.Entries.{at_entry}
use Rattle.query.specs.ByArcs.{geom_text}
use Rattle.query.specs.Sequences.{lines, layer_lines, entries_lines, map_lines, lines_by_arcs}
use Rattle.query.proofs.OfLayer.{Goes, beside, contains_entry}
use Rattle.query.proofs.Texts.{feature_same}

-- the features in order, and their geometries, have the same lines
lines_same : (t : TopologyParts) (J : Pos → Type 0) (fs : List Feature) (gs : List Geom) →
    Pairwise (IsGeometryOf position_cmp J t.arcs.arcs) (map_list seen_by.item_of fs) (map_list item_of gs) →
    lines (feature_text t.grid) fs ≡ lines (geom_text t) gs
lines_same t J [] [] p = refl
lines_same t J [] (y ∷ ys) p = absurd p
lines_same t J (x ∷ xs) [] p = absurd p
lines_same t J (x ∷ xs) (y ∷ ys) p = λ i. (feature_same t J x y p.0 i ++ (10 ∷ [])) ++ lines_same t J xs ys p.1 i

-- the lines of the geometries of a name are those of the map's features there
pub layer_lines_are : (m : Layers) (t : TopologyParts) (name : List ℕ) (gs : List Geom) → IsOf m t → IsOfLayerNamed t.layers name gs →
    (map.contains_key m name ≡ true) × (lines (geom_text t) gs ≡ layer_lines t.grid m name)
layer_lines_are m t name gs is (l, there, named, geometries) =
    let b : (e : List ℕ × Features) × Has e (map.entries m) × Goes m t e l =
    partner_back (Goes m t) (map.entries m) t.layers (beside m t is) l there in
    let e = b.0 in
    let name_is : e.0 ≡ name = b.2.name ∙ named in
    let at : features_at m name ≡ e.1 = subst (λ w. features_at m w ≡ e.1) name_is (at_entry m e b.1) in (
      subst (λ w. map.contains_key m w ≡ true) name_is (contains_entry m e b.1),
      ap (lines (geom_text t)) geometries
          ∙ sym (lines_same t (JunctionOf (seen_by.geometry_of m)) (set.items e.1) l.geometries b.2.items)
          ∙ ap (λ s. lines (feature_text t.grid) (set.items s)) (sym at),
    )

-- the lines of all layers are those of all names
entries_same : (m : Layers) (t : TopologyParts) (es : List (List ℕ × Features)) (ls : List LayerParts) → Pairwise (Goes m t) es ls →
    entries_lines t.grid es ≡ lines_by_arcs t ls
entries_same m t [] [] p = refl
entries_same m t [] (l ∷ ls) p = absurd p
entries_same m t (e ∷ es) [] p = absurd p
entries_same m t (e ∷ es) (l ∷ ls) p =
    λ i. lines_same t (JunctionOf (seen_by.geometry_of m)) (set.items e.1) l.geometries p.0.items i ++ entries_same m t es ls p.1 i

pub map_lines_are : (m : Layers) (t : TopologyParts) → IsOf m t → lines_by_arcs t t.layers ≡ map_lines t.grid m
map_lines_are m t is = sym (entries_same m t (map.entries m) t.layers (beside m t is))
