-- A topology is that of one map.
use Rattle.std.specs.Prelude.{◌≡◌, ℕ, List, [], ◌∷◌}
use Rattle.std.specs.FinMap as map
use Rattle.std.proofs.Common.{refl, sym, ap, ◌∙◌}
use Rattle.grid.specs.declared.pos.Pos.{Pos}
use Rattle.lines.specs.Reading.{ring_of}
use Rattle.lines.specs.Seen.{positions_of}
use Rattle.lines.specs.Turned.{position_cmp}
use Rattle.lines.specs.declared.line.Line as the_line
use Rattle.lines.specs.declared.ring.Ring as the_ring
use Rattle.lines.proofs.ReadsItself.{ring_reads}
use Rattle.shapes.specs.Maps.{Features, Layers}
use Rattle.shapes.specs.OrderLaws.{feature_alike, one_line, one_ring}
use Rattle.shapes.specs.Sets as set
use Rattle.shapes.specs.declared.feature.Feature.{Feature}
use Rattle.shapes.specs.Shapes as shapes
use Rattle.shapes.specs.declared.form.Form.TheVariants as of
use Rattle.theory.specs.ArcNumbers.{ArcRef}
use Rattle.theory.specs.LinesAndRings.{closed}
use Rattle.theory.specs.Lists.{Pairwise}
use Rattle.topo.specs.Features.{IsFeatureOf, IsLineOf, IsRingOf, IsShapeOf}
use Rattle.topo.specs.OfMap.{IsOf}
use Rattle.topo.specs.Parts.{LayerParts, TopologyParts}
use Rattle.topo.specs.Bodies as bodies
use Rattle.topo.specs.declared.geom.Geom.{Geom}
use Rattle.topo.proofs.Filling.{all_members}
use Rattle.topo.proofs.Stitched.{IsEntryOf, entries_of}
use Rattle.topo.proofs.Walks.{walked_stitched}

-- what is beside one list is one list
beside_one : {A B : Type 0} (R : A → B → Type 0) → ((x y : A) (b : B) → R x b → R y b → x ≡ y) →
    (xs ys : List A) (bs : List B) → Pairwise R xs bs → Pairwise R ys bs → xs ≡ ys
beside_one R one [] [] bs p q = refl
beside_one R one [] (y ∷ ys) [] p q = absurd q
beside_one R one [] (y ∷ ys) (b ∷ bs) p q = absurd p
beside_one R one (x ∷ xs) ys [] p q = absurd p
beside_one R one (x ∷ xs) [] (b ∷ bs) p q = absurd q
beside_one R one (x ∷ xs) (y ∷ ys) (b ∷ bs) p q =
    let first = one x y b p.0 q.0 in
    let rest = beside_one R one xs ys bs p.1 q.1 in
    λ i. first i ∷ rest i

module _ (arcs : List (List Pos)) where
  one_line_of : (k l : the_line.Line) (used : List ArcRef) → IsLineOf arcs k used → IsLineOf arcs l used → k ≡ l
  one_line_of k l used h i = one_line k l (sym (walked_stitched arcs used (positions_of k) h) ∙ walked_stitched arcs used (positions_of l) i)

  one_ring_of : (k l : the_ring.Ring) (used : List ArcRef) → IsRingOf arcs k used → IsRingOf arcs l used → k ≡ l
  one_ring_of k l used (p, turned, h) (q, rotated, i) =
      one_ring k l (sym (ring_reads k p turned).1
      ∙ ap (ring_of position_cmp) (sym (walked_stitched arcs used (closed p) h) ∙ walked_stitched arcs used (closed q) i)
      ∙ (ring_reads l q rotated).1)

  -- a shape by the kind of its body
  is_null : (s : shapes.Shape) → IsShapeOf arcs s of.Null → s ≡ of.Null
  is_null of.Null h = refl
  is_null s h = absurd h

  is_point : (s : shapes.Shape) (p : Pos) → IsShapeOf arcs s (of.Point p) → s ≡ of.Point p
  is_point (of.Point q) p h = ap of.Point h
  is_point s p h = absurd h

  is_points : (s : shapes.Shape) (ps : List Pos) → IsShapeOf arcs s (of.MultiPoint ps) → s ≡ of.MultiPoint ps
  is_points (of.MultiPoint qs) ps h = ap of.MultiPoint h
  is_points s ps h = absurd h

  pub is_line : (s : shapes.Shape) (used : List ArcRef) → IsShapeOf arcs s (of.Line used) → (l : the_line.Line) × (s ≡ of.Line l) × IsLineOf arcs l used
  is_line (of.Line l) used h = (l, refl, h)
  is_line s used h = absurd h

  pub is_lines : (s : shapes.Shape) (lists : List (List ArcRef)) → IsShapeOf arcs s (of.MultiLine lists) → (ls : List the_line.Line) × (s ≡ of.MultiLine ls) × Pairwise (IsLineOf arcs) ls lists
  is_lines (of.MultiLine ls) lists h = (ls, refl, h)
  is_lines s lists h = absurd h

  pub is_polygon : (s : shapes.Shape) (lists : List (List ArcRef)) → IsShapeOf arcs s (of.Polygon lists) → (rs : List the_ring.Ring) × (s ≡ of.Polygon rs) × Pairwise (IsRingOf arcs) rs lists
  is_polygon (of.Polygon rs) lists h = (rs, refl, h)
  is_polygon s lists h = absurd h

  pub is_polygons : (s : shapes.Shape) (lists : List (List (List ArcRef))) → IsShapeOf arcs s (of.MultiPolygon lists) →
      (ps : List (List the_ring.Ring)) × (s ≡ of.MultiPolygon ps) × Pairwise (Pairwise (IsRingOf arcs)) ps lists
  is_polygons (of.MultiPolygon ps) lists h = (ps, refl, h)
  is_polygons s lists h = absurd h

  one_shape : (s t : shapes.Shape) (b : bodies.Body) → IsShapeOf arcs s b → IsShapeOf arcs t b → s ≡ t
  one_shape s t of.Null h i = is_null s h ∙ sym (is_null t i)
  one_shape s t (of.Point p) h i = is_point s p h ∙ sym (is_point t p i)
  one_shape s t (of.MultiPoint ps) h i = is_points s ps h ∙ sym (is_points t ps i)
  one_shape s t (of.Line used) h i =
      let (k, e, p) = is_line s used h in
      let (l, f, q) = is_line t used i in
      e ∙ ap of.Line (one_line_of k l used p q) ∙ sym f
  one_shape s t (of.MultiLine lists) h i =
      let (k, e, p) = is_lines s lists h in
      let (l, f, q) = is_lines t lists i in
      e ∙ ap of.MultiLine (beside_one (IsLineOf arcs) one_line_of k l lists p q) ∙ sym f
  one_shape s t (of.Polygon lists) h i =
      let (k, e, p) = is_polygon s lists h in
      let (l, f, q) = is_polygon t lists i in
      e ∙ ap of.Polygon (beside_one (IsRingOf arcs) one_ring_of k l lists p q) ∙ sym f
  one_shape s t (of.MultiPolygon lists) h i =
      let (k, e, p) = is_polygons s lists h in
      let (l, f, q) = is_polygons t lists i in
      e ∙ ap of.MultiPolygon (beside_one (Pairwise (IsRingOf arcs)) (beside_one (IsRingOf arcs) one_ring_of) k l lists p q) ∙ sym f

  pub one_feature : (f g : Feature) (h : Geom) → IsFeatureOf arcs f h → IsFeatureOf arcs g h → f ≡ g
  one_feature f g h p q =
      (feature_alike f g).1
      (p.id ∙ sym q.id, ap (λ x. x.text) (p.props ∙ sym q.props), one_shape f.shape g.shape h.body p.shape q.shape)

  one_entry : (e d : List ℕ × Features) (l : LayerParts) → IsEntryOf arcs e l → IsEntryOf arcs d l → e ≡ d
  one_entry e d l p q =
      let name = p.name ∙ sym q.name in
      let items = beside_one (IsFeatureOf arcs) one_feature (set.items e.1) (set.items d.1) l.geometries p.items q.items in
      let members = sym (all_members e.1) ∙ ap set.from_list items ∙ all_members d.1 in
      λ i. (name i, members i)

-- a topology is that of one map
pub one_map : (t : TopologyParts) (m n : Layers) → IsOf m t → IsOf n t → m ≡ n
one_map t m n h k =
    map.same_entries_map m n
    (beside_one (IsEntryOf t.arcs.arcs) (one_entry t.arcs.arcs) (map.entries m) (map.entries n) t.layers (entries_of m t h) (entries_of n t k))
