-- The features that the geometries of a topology stitch to.
use Rattle.std.proofs.Common.{◌≡◌, ℕ, List, [], ◌∷◌, sym, ap, ◌∙◌, subst, None}
use Rattle.std.specs.Prelude.{map as map_list}
use Rattle.std.specs.FinMap as map
use Rattle.grid.specs.declared.pos.Pos.{Pos}
use Rattle.lines.specs.Reading.{collapsed, line_fault, ring_fault, ring_of}
use Rattle.lines.specs.Seen.{positions_of, vertices_of}
use Rattle.lines.specs.Turned.{position_cmp}
use Rattle.lines.specs.declared.line.Line as the_line
use Rattle.lines.specs.declared.ring.Ring as the_ring
use Rattle.lines.proofs.ReadsItself.{line_reads, ring_reads}
use Rattle.shapes.specs.Maps.{Layers, Features, features_at}
use Rattle.shapes.specs.OrderLaws.{one_line, one_ring}
use Rattle.shapes.specs.Parts.{spelled_text}
use Rattle.shapes.specs.Sets as set
use Rattle.shapes.specs.declared.feature.Feature.{Feature}
use Rattle.shapes.specs.Shapes as shapes
use Rattle.shapes.specs.declared.form.Form.TheVariants as of
use Rattle.chains.specs.Seen as seen_by
use Rattle.chains.specs.Seen.{form_of, geometry_of}
use Rattle.theory.specs.ArcNumbers.{ArcRef, StitchTo}
use Rattle.theory.specs.Geometry.{JunctionOf}
use Rattle.theory.specs.LinesAndRings.{closed}
use Rattle.theory.specs.Lists.{Pairwise}
use Rattle.theory.specs.Topology.{IsFormOf, IsGeometryOf, IsLayerOf, IsRingList}
use Rattle.topo.specs.Features.{AreFeaturesOf, IsFeatureOf, IsLineOf, IsRingOf, IsShapeOf}
use Rattle.topo.specs.OfMap.{IsOf, body_of, item_of, layer_of}
use Rattle.topo.specs.Parts.{IsOfLayerNamed, LayerParts, TopologyParts}
use Rattle.topo.specs.Walked.{walked}
use Rattle.topo.specs.Bodies as bodies
use Rattle.topo.specs.declared.geom.Geom.{Geom}
use Rattle.shapes.proofs.Entries.{at_entry}
use Rattle.topo.proofs.Pairs.{Pairwise-mapped, Pairwise-weaker, pair_of}
use Rattle.topo.proofs.Walks.{walked_stitched}

module _ (arcs : List (List Pos)) (used : List ArcRef) (ps : List Pos) (is : ps ≡ walked arcs used) where
  pub line_faultless : (l : the_line.Line) → IsLineOf arcs l used → line_fault position_cmp ps ≡ None
  line_faultless l h = ap (line_fault position_cmp) (is ∙ walked_stitched arcs used (positions_of l) h) ∙ (line_reads l).0

  pub line_made : (made : the_line.Line) → positions_of made ≡ collapsed position_cmp ps → (l : the_line.Line) → IsLineOf arcs l used → made ≡ l
  line_made made e l h =
      one_line made l (e ∙ ap (collapsed position_cmp) (is ∙ walked_stitched arcs used (positions_of l) h) ∙ (line_reads l).1)

  pub ring_faultless : (r : the_ring.Ring) → IsRingOf arcs r used → ring_fault position_cmp ps ≡ None
  ring_faultless r (q, turned, h) = ap (ring_fault position_cmp) (is ∙ walked_stitched arcs used (closed q) h) ∙ (ring_reads r q turned).0

  pub ring_made : (made : the_ring.Ring) → vertices_of made ≡ ring_of position_cmp ps → (r : the_ring.Ring) → IsRingOf arcs r used → made ≡ r
  ring_made made e r (q, turned, h) =
      one_ring made r (e ∙ ap (ring_of position_cmp) (is ∙ walked_stitched arcs used (closed q) h) ∙ (ring_reads r q turned).1)

module _ (J : Pos → Type 0) (arcs : List (List Pos)) where
  abbrev A : List Pos → List ArcRef → Type 0
  A l used = StitchTo arcs used l

  abbrev B : List Pos → List ArcRef → Type 0
  B = IsRingList position_cmp J arcs

  ring_at_seam : (r : the_ring.Ring) (used : List ArcRef) → B (vertices_of r) used → IsRingOf arcs r used
  ring_at_seam r used (x, l, turned, h) = (x ∷ l, turned.rotation, h)

  lines_of : (ls : List the_line.Line) (lists : List (List ArcRef)) → Pairwise A (map_list seen_by.line_of ls) lists → Pairwise (IsLineOf arcs) ls lists
  lines_of [] [] h = tt
  lines_of [] (y ∷ ys) h = absurd h
  lines_of (x ∷ xs) [] h = absurd h
  lines_of (x ∷ xs) (y ∷ ys) h = (h.0, lines_of xs ys h.1)

  rings_of : (rs : List the_ring.Ring) (lists : List (List ArcRef)) → Pairwise B (map_list seen_by.ring_of rs) lists → Pairwise (IsRingOf arcs) rs lists
  rings_of [] [] h = tt
  rings_of [] (y ∷ ys) h = absurd h
  rings_of (x ∷ xs) [] h = absurd h
  rings_of (x ∷ xs) (y ∷ ys) h = (ring_at_seam x y h.0, rings_of xs ys h.1)

  polygons_of : (ps : List (List the_ring.Ring)) (lists : List (List (List ArcRef))) → Pairwise (Pairwise B) (map_list (map_list seen_by.ring_of) ps) lists →
      Pairwise (Pairwise (IsRingOf arcs)) ps lists
  polygons_of [] [] h = tt
  polygons_of [] (y ∷ ys) h = absurd h
  polygons_of (x ∷ xs) [] h = absurd h
  polygons_of (x ∷ xs) (y ∷ ys) h = (rings_of x y h.0, polygons_of xs ys h.1)

  shape_of : (s : shapes.Shape) (b : bodies.Body) → IsFormOf A B (form_of s) (body_of b) → IsShapeOf arcs s b
  shape_of of.Null of.Null h = tt
  shape_of (of.Point p) (of.Point q) h = h
  shape_of (of.MultiPoint ps) (of.MultiPoint qs) h = h
  shape_of (of.Line l) (of.Line used) h = h
  shape_of (of.MultiLine ls) (of.MultiLine lists) h = lines_of ls lists h
  shape_of (of.Polygon rs) (of.Polygon lists) h = rings_of rs lists h
  shape_of (of.MultiPolygon ps) (of.MultiPolygon lists) h = polygons_of ps lists h
  shape_of s b h = absurd h

  pub feature_of : (f : Feature) (g : Geom) → IsGeometryOf position_cmp J arcs (seen_by.item_of f) (item_of g) → IsFeatureOf arcs f g
  feature_of f g h = record { id = ap (λ i. i.0) h.info; props = ap (λ i. i.1) h.info; shape = shape_of f.shape g.body h.form }

-- the layer has the entry's name, and its geometries stitch to the entry's features
pub record IsEntryOf (arcs : List (List Pos)) (e : List ℕ × Features) (l : LayerParts) : Type 0 where
  pub name : e.0 ≡ spelled_text l.name
  pub items : AreFeaturesOf arcs (set.items e.1) l.geometries

-- the layers of a topology, one by one, are those of its map
pub entries_of : (m : Layers) (t : TopologyParts) → IsOf m t → Pairwise (IsEntryOf t.arcs.arcs) (map.entries m) t.layers
entries_of m t h =
    Pairwise-weaker _ (IsEntryOf t.arcs.arcs) one (map.entries m) t.layers
    (Pairwise-mapped (IsLayerOf position_cmp (JunctionOf (geometry_of m)) t.arcs.arcs) seen_by.layer_of layer_of (map.entries m) t.layers h.topology.layers)
  where
    one : (e : List ℕ × Features) (l : LayerParts) → IsLayerOf position_cmp (JunctionOf (geometry_of m)) t.arcs.arcs (seen_by.layer_of e) (layer_of l) → IsEntryOf t.arcs.arcs e l
    one e l k = record {
      name = k.name;
      items = Pairwise-weaker _ (IsFeatureOf t.arcs.arcs) (feature_of (JunctionOf (geometry_of m)) t.arcs.arcs) (set.items e.1) l.geometries
          (Pairwise-mapped (IsGeometryOf position_cmp (JunctionOf (geometry_of m)) t.arcs.arcs) seen_by.item_of item_of (set.items e.1) l.geometries k.items);
    }

-- the geometries of a layer's name stitch, one by one, to the features that the topology's map has under it
pub geometries_of : (m : Layers) (t : TopologyParts) (name : List ℕ) (gs : List Geom) → IsOf m t → IsOfLayerNamed t.layers name gs →
    AreFeaturesOf t.arcs.arcs (set.items (features_at m name)) gs
geometries_of m t name gs h (l, there, named, is) =
    let (e, at, k) = pair_of (IsEntryOf t.arcs.arcs) (map.entries m) t.layers l (entries_of m t h) there in
    subst (AreFeaturesOf t.arcs.arcs (set.items (features_at m name))) (sym is)
    (subst (λ n. AreFeaturesOf t.arcs.arcs (set.items (features_at m n)) l.geometries) (k.name ∙ named)
    (subst (λ s. AreFeaturesOf t.arcs.arcs (set.items s) l.geometries) (sym (at_entry m e at)) k.items))
