-- The table and the layers that stand over it are the parts of the topology of the map that the layers stitch to.
use Rattle.std.proofs.Common.{ℕ, List, sym, subst}
use Rattle.std.specs.Prelude.{map as map_list}
use Rattle.std.specs.FinMap as map
use Rattle.grid.specs.declared.pos.Pos.{Pos}
use Rattle.lines.specs.Turned.{position_cmp}
use Rattle.lines.specs.declared.ring.Ring as the_ring
use Rattle.shapes.specs.Maps.{Features, Layers}
use Rattle.shapes.specs.Sets as set
use Rattle.shapes.specs.declared.feature.Feature.{Feature}
use Rattle.shapes.specs.Shapes as shapes
use Rattle.shapes.specs.declared.form.Form.TheVariants as of
use Rattle.chains.specs.Seen as seen_by
use Rattle.chains.specs.Seen.{form_of, geometry_of, line_of, ring_of, seen}
use Rattle.theory.specs.ArcNumbers.{ArcRef, StitchTo}
use Rattle.theory.specs.Geometry.{JunctionOf}
use Rattle.theory.specs.Lists.{Pairwise, gathered}
use Rattle.theory.specs.Topology.{IsFormOf, IsGeometryOf, IsLayerOf, IsRingList, lines_in, rings_in}
use Rattle.topo.specs.Features.{IsFeatureOf, IsLineOf, IsRingOf, IsShapeOf}
use Rattle.topo.specs.OfMap.{body_of, item_of, layer_of}
use Rattle.topo.specs.Parts.{LayerParts}
use Rattle.topo.specs.Bodies as bodies
use Rattle.topo.specs.declared.geom.Geom.{Geom}
use Rattle.topo.proofs.TakenInOrder.{entries_forms}
use Rattle.validate.specs.Validity.{AreTurnedListsOf, StitchAround}
use Rattle.validate.proofs.Together.{lists_are_the_maps}
use Rattle.validate.specs.Accept.Laws as law
use Rattle.validate.specs.Accept.Laws.{AreStitched, IsStitched, AreValidLayers}
use Rattle.validate.specs.Accept.Lists.{layer_lines, layer_rings, layers_lines, layers_rings}
use Rattle.topo.specs.BodyLists.{body_lines, body_rings}
use Rattle.validate.proofs.AcceptLemmas.PairsGathered.{pairs_gathered, pairs_joined, pairs_mapped, pairs_parted, pairs_unjoined, pairs_with}

module _ (arcs : List (List Pos)) where
  abbrev Stitches : List Pos → List ArcRef → Type 0
  Stitches l us = StitchTo arcs us l

  abbrev Turns : List Pos → List ArcRef → Type 0
  Turns r us = StitchAround arcs us r

  -- the lines and the rings of a shape, and the lists of its body
  shape_lines : (s : shapes.Shape) (b : bodies.Body) → IsShapeOf arcs s b → Pairwise Stitches (lines_in (form_of s)) (body_lines b)
  shape_lines of.Null of.Null h = tt
  shape_lines (of.Point p) (of.Point q) h = tt
  shape_lines (of.MultiPoint ps) (of.MultiPoint qs) h = tt
  shape_lines (of.Line l) (of.Line used) h = (h, tt)
  shape_lines (of.MultiLine ls) (of.MultiLine lists) h = pairs_with (IsLineOf arcs) Stitches line_of (λ l us k. k) ls lists h
  shape_lines (of.Polygon rs) (of.Polygon lists) h = tt
  shape_lines (of.MultiPolygon ps) (of.MultiPolygon lists) h = tt
  shape_lines s b h = absurd h

  polygons_turn : (ps : List (List the_ring.Ring)) (lists : List (List (List ArcRef))) → Pairwise (Pairwise (IsRingOf arcs)) ps lists →
      Pairwise (Pairwise Turns) (map_list (map_list ring_of) ps) lists
  polygons_turn = pairs_with (Pairwise (IsRingOf arcs)) (Pairwise Turns) (map_list ring_of) (pairs_with (IsRingOf arcs) Turns ring_of (λ r us k. k))

  shape_rings : (s : shapes.Shape) (b : bodies.Body) → IsShapeOf arcs s b → Pairwise Turns (rings_in (form_of s)) (body_rings b)
  shape_rings of.Null of.Null h = tt
  shape_rings (of.Point p) (of.Point q) h = tt
  shape_rings (of.MultiPoint ps) (of.MultiPoint qs) h = tt
  shape_rings (of.Line l) (of.Line used) h = tt
  shape_rings (of.MultiLine ls) (of.MultiLine lists) h = tt
  shape_rings (of.Polygon rs) (of.Polygon lists) h = pairs_with (IsRingOf arcs) Turns ring_of (λ r us k. k) rs lists h
  shape_rings (of.MultiPolygon ps) (of.MultiPolygon lists) h = pairs_joined Turns (map_list (map_list ring_of) ps) lists (polygons_turn ps lists h)
  shape_rings s b h = absurd h

  -- those of a feature, and of a layer
  abbrev feature_lines : Feature → List (List Pos)
  feature_lines f = lines_in (form_of f.shape)

  abbrev feature_rings : Feature → List (List Pos)
  feature_rings f = rings_in (form_of f.shape)

  abbrev entry_lines : List ℕ × Features → List (List Pos)
  entry_lines e = gathered (λ (f : Feature). lines_in (form_of f.shape)) (set.items e.1)

  abbrev entry_rings : List ℕ × Features → List (List Pos)
  entry_rings e = gathered (λ (f : Feature). rings_in (form_of f.shape)) (set.items e.1)

  lines_pair : (e : List ℕ × Features) (l : LayerParts) → IsStitched arcs e l → Pairwise Stitches (entry_lines e) (layer_lines l)
  lines_pair e l h =
      pairs_gathered (IsFeatureOf arcs) Stitches feature_lines (λ g. body_lines g.body) (λ f g k. shape_lines f.shape g.body k.shape) (set.items e.1) l.geometries h.items

  rings_pair : (e : List ℕ × Features) (l : LayerParts) → IsStitched arcs e l → Pairwise Turns (entry_rings e) (layer_rings l)
  rings_pair e l h =
      pairs_gathered (IsFeatureOf arcs) Turns feature_rings (λ g. body_rings g.body) (λ f g k. shape_rings f.shape g.body k.shape) (set.items e.1) l.geometries h.items

  -- those of a map
  lists : (m : Layers) (ls : List LayerParts) → AreStitched arcs m ls → AreTurnedListsOf arcs (layers_lines ls) (layers_rings ls) (geometry_of m)
  lists m ls is = record {
    of_lines = subst (λ w. Pairwise Stitches w (layers_lines ls)) (entries_forms lines_in (map.entries m))
        (pairs_gathered (IsStitched arcs) Stitches entry_lines layer_lines lines_pair (map.entries m) ls is);
    of_rings = subst (λ w. Pairwise Turns w (layers_rings ls)) (entries_forms rings_in (map.entries m))
        (pairs_gathered (IsStitched arcs) Turns entry_rings layer_rings rings_pair (map.entries m) ls is);
  }

  -- where the lists of rings are those of a topology, so are the layers
  module _ (J : Pos → Type 0) where
    abbrev Listed : List Pos → List ArcRef → Type 0
    Listed = IsRingList position_cmp J arcs

    body_form : (s : shapes.Shape) (b : bodies.Body) → IsShapeOf arcs s b → Pairwise Listed (rings_in (form_of s)) (body_rings b) → IsFormOf Stitches Listed (form_of s) (body_of b)
    body_form of.Null of.Null h k = tt
    body_form (of.Point p) (of.Point q) h k = h
    body_form (of.MultiPoint ps) (of.MultiPoint qs) h k = h
    body_form (of.Line l) (of.Line used) h k = h
    body_form (of.MultiLine ls) (of.MultiLine lists) h k = shape_lines (of.MultiLine ls) (of.MultiLine lists) h
    body_form (of.Polygon rs) (of.Polygon lists) h k = k
    body_form (of.MultiPolygon ps) (of.MultiPolygon lists) h k = pairs_unjoined Turns Listed (map_list (map_list ring_of) ps) lists (polygons_turn ps lists h) k
    body_form s b h k = absurd h

    abbrev Made : Feature → Geom → Type 0
    Made f g = IsGeometryOf position_cmp J arcs (seen_by.item_of f) (item_of g)

    geometry : (f : Feature) (g : Geom) → IsFeatureOf arcs f g → Pairwise Listed (feature_rings f) (body_rings g.body) → Made f g
    geometry f g h k = record { info = λ i. (h.id i, h.props i); form = body_form f.shape g.body h.shape k }

    layer : (e : List ℕ × Features) (l : LayerParts) → IsStitched arcs e l → Pairwise Listed (entry_rings e) (layer_rings l) →
        IsLayerOf position_cmp J arcs (seen_by.layer_of e) (layer_of l)
    layer e l h k = record {
      name = h.name;
      items = pairs_mapped (IsGeometryOf position_cmp J arcs) seen_by.item_of item_of (set.items e.1) l.geometries
          (pairs_parted (IsFeatureOf arcs) Made Turns Listed feature_rings (λ g. body_rings g.body) (λ f g k. shape_rings f.shape g.body k.shape) geometry
          (set.items e.1) l.geometries h.items k);
    }

    layers : (es : List (List ℕ × Features)) (ls : List LayerParts) → Pairwise (IsStitched arcs) es ls → Pairwise Listed (gathered entry_rings es) (layers_rings ls) →
        Pairwise (IsLayerOf position_cmp J arcs) (map_list seen_by.layer_of es) (map_list layer_of ls)
    layers es ls is k =
        pairs_mapped (IsLayerOf position_cmp J arcs) seen_by.layer_of layer_of es ls
        (pairs_parted (IsStitched arcs) (λ e l. IsLayerOf position_cmp J arcs (seen_by.layer_of e) (layer_of l)) Turns Listed entry_rings layer_rings rings_pair layer es ls is k)

pub layers_are_the_maps : law.LayersAreTheMaps
layers_are_the_maps t ls st m is =
    let meant = lists_are_the_maps t st.apart (layers_lines ls) (layers_rings ls) st.lists (geometry_of m) (lists t.arcs m ls is) in
    record {
      table = meant.1;
      layers = layers t.arcs (JunctionOf (geometry_of m)) (map.entries m) ls is
          (subst (λ w. Pairwise (IsRingList position_cmp (JunctionOf (geometry_of m)) t.arcs) w (layers_rings ls)) (sym (entries_forms rings_in (map.entries m))) meant.2);
    }
