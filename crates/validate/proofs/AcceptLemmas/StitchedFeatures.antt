-- Where layers stand over arcs that are apart, each geometry stitches to a feature.
use Rattle.std.proofs.Common.{◌≡◌, ◌≤◌, false, List, [], ◌∷◌, inl, refl, sym, arith}
use Rattle.std.proofs.lemmas.Cmp.{lists_total}
use Rattle.std.proofs.lemmas.List.{append-nil}
use Rattle.std.specs.Ordering.{is_gt}
use Rattle.std.specs.List.{AllByRecursion}
use Rattle.grid.specs.declared.pos.Pos.{Pos}
use Rattle.lines.specs.Positions.{position_total}
use Rattle.lines.specs.Seen.{vertices_of}
use Rattle.lines.specs.Turned.{list_cmp}
use Rattle.lines.specs.declared.line.Line as the_line
use Rattle.lines.specs.declared.ring.Ring as the_ring
use Rattle.shapes.specs.Ids.{HasI64}
use Rattle.shapes.specs.Shapes as shapes
use Rattle.shapes.specs.declared.form.Form.TheVariants as of
use Rattle.theory.specs.ArcNumbers.{ArcRef, StitchTo}
use Rattle.theory.specs.Geometry.{Geometry, IsSound}
use Rattle.theory.specs.LinesAndRings.{IsRing, IsRotation, closed}
use Rattle.theory.specs.Lists.{Has, Pairwise, gathered}
use Rattle.theory.specs.TopologyFunction.{least_list, rotations}
use Rattle.theory.proofs.Lists.{Has-append_left, Has-append_right}
use Rattle.theory.proofs.ListsOfLists.{Has-joined}
use Rattle.theory.proofs.Rotations.{rotation_back, rotation_ring, rotation_trans}
use Rattle.theory.proofs.Turning.{least_list_found, rotation_listed, rotation_of}
use Rattle.theory.proofs.UsersOfArcs.{partner_back}
use Rattle.arcs.specs.Arcs.{Arcs}
use Rattle.topo.specs.Features.{HasFeature, IsLineOf, IsRingOf, IsShapeOf}
use Rattle.topo.specs.GeometryOrder.{HaveFeatures, LayersHaveFeatures}
use Rattle.topo.specs.Parts.{LayerParts}
use Rattle.topo.specs.Bodies as bodies
use Rattle.topo.specs.declared.geom.Geom.{Geom}
use Rattle.topo.proofs.Pairs.{Pairwise-weaker}
use Rattle.validate.specs.Validity.{AreListsOf, AreTurnedListsOf, StitchAround}
use Rattle.validate.proofs.Together.{lists_are_the_maps, lists_make_a_map, made}
use Rattle.validate.specs.Accept.Laws as law
use Rattle.validate.specs.Accept.Laws.{HaveI64, AreValidLayers}
use Rattle.validate.specs.Accept.Lists.{layer_lines, layer_rings, layers_lines, layers_rings}
use Rattle.topo.specs.BodyLists.{body_lines, body_rings}

-- the least rotation of a ring
least_ring : (q : List Pos) → IsRing q → (r : the_ring.Ring) × IsRotation (vertices_of r) q
least_ring [] k = absurd (let n : 3 ≤ 0 = k.long in omega arith)
least_ring (x ∷ l) k =
    let there : Has (x ∷ l) (rotations (x ∷ l)) = rotation_listed (x ∷ l) x l ([], x ∷ l, refl, sym (append-nil (x ∷ l))) in
    let t = least_list_found list_cmp (lists_total position_total) (rotations (x ∷ l)) (x ∷ l) there in
    let p = rotation_of [] (x ∷ l) (least_list list_cmp (rotations (x ∷ l))) t.0 in
    let turn : IsRotation (x ∷ l) (least_list list_cmp (rotations (x ∷ l))) = (p.1, p.0 ∷ p.2, p.3, p.4) in (
      record {
        positions = least_list list_cmp (rotations (x ∷ l));
        ring = rotation_ring (x ∷ l) (least_list list_cmp (rotations (x ∷ l))) turn k;
        least = λ m q. least m (rotation_trans (x ∷ l) (least_list list_cmp (rotations (x ∷ l))) m turn q);
      },
      rotation_back (x ∷ l) (least_list list_cmp (rotations (x ∷ l))) turn,
    )
  where
    least : (m : List Pos) → IsRotation (x ∷ l) m → is_gt (list_cmp (least_list list_cmp (rotations (x ∷ l))) m) ≡ false
    least [] q = absurd (let n : 3 ≤ 0 = (rotation_ring (x ∷ l) [] q k).long in omega arith)
    least (y ∷ m) q = (least_list_found list_cmp (lists_total position_total) (rotations (x ∷ l)) (y ∷ m) (rotation_listed (x ∷ l) y m q)).1

-- lists that stitch to rings stitch to them begun where they begin
started : (arcs : List (List Pos)) (lines rings : List (List ArcRef)) (g : Geometry Pos) → AreListsOf arcs lines rings g → AreTurnedListsOf arcs lines rings g
started arcs lines rings g are = record {
  of_lines = are.of_lines;
  of_rings = Pairwise-weaker (λ r us. StitchTo arcs us (closed r)) (λ r us. StitchAround arcs us r) (λ r us s. (r, ([], r, refl, sym (append-nil r)), s)) g.rings rings are.of_rings;
}

module _ (t : Arcs) (ls : List LayerParts) (st : AreValidLayers t ls) where
  a_map : (g : Geometry Pos) × AreListsOf t.arcs (layers_lines ls) (layers_rings ls) g
  a_map = lists_make_a_map t st.apart (layers_lines ls) (layers_rings ls) st.lists

  sound : IsSound a_map.0
  sound = (lists_are_the_maps t st.apart (layers_lines ls) (layers_rings ls) st.lists a_map.0 (started t.arcs (layers_lines ls) (layers_rings ls) a_map.0 a_map.1)).0

  line_of : (us : List ArcRef) → Has us (layers_lines ls) → (l : the_line.Line) × IsLineOf t.arcs l us
  line_of us h =
      let p = partner_back (λ l us. StitchTo t.arcs us l) a_map.0.lines (layers_lines ls) a_map.1.of_lines us h in
      (record { positions = p.0; line = sound.lines p.0 p.1 }, p.2)

  ring_of : (us : List ArcRef) → Has us (layers_rings ls) → (r : the_ring.Ring) × IsRingOf t.arcs r us
  ring_of us h =
      let p = partner_back (λ r us. StitchTo t.arcs us (closed r)) a_map.0.rings (layers_rings ls) a_map.1.of_rings us h in
      let k = least_ring p.0 (sound.rings p.0 p.1) in
      (k.0, (p.0, k.1, p.2))

  shape_of : (b : bodies.Body) → ((us : List ArcRef) → Has us (body_lines b) → Has us (layers_lines ls)) →
      ((us : List ArcRef) → Has us (body_rings b) → Has us (layers_rings ls)) → (s : shapes.Shape) × IsShapeOf t.arcs s b
  shape_of of.Null i j = (of.Null, tt)
  shape_of (of.Point p) i j = (of.Point p, refl)
  shape_of (of.MultiPoint ps) i j = (of.MultiPoint ps, refl)
  shape_of (of.Line used) i j = let l = line_of used (i used (inl refl)) in (of.Line l.0, l.1)
  shape_of (of.MultiLine lists) i j = let p = made (IsLineOf t.arcs) lists (λ us h. line_of us (i us h)) in (of.MultiLine p.0, p.1)
  shape_of (of.Polygon lists) i j = let p = made (IsRingOf t.arcs) lists (λ us h. ring_of us (j us h)) in (of.Polygon p.0, p.1)
  shape_of (of.MultiPolygon ps) i j =
      let p = made (Pairwise (IsRingOf t.arcs)) ps (λ lists h. made (IsRingOf t.arcs) lists (λ us k. ring_of us (j us (Has-joined ps lists us h k)))) in
      (of.MultiPolygon p.0, p.1)

  feature_of : (g : Geom) → HasI64 g.id → ((us : List ArcRef) → Has us (body_lines g.body) → Has us (layers_lines ls)) →
      ((us : List ArcRef) → Has us (body_rings g.body) → Has us (layers_rings ls)) → HasFeature t.arcs g
  feature_of g bits i j =
      let s = shape_of g.body i j in
      (record { id = g.id; props = g.props; shape = s.0; bits = bits }, record { id = refl; props = refl; shape = s.1 })

  geometries_have : (gs : List Geom) → AllByRecursion (λ g. HasI64 g.id) gs →
      ((us : List ArcRef) → Has us (gathered (λ (g : Geom). body_lines g.body) gs) → Has us (layers_lines ls)) →
      ((us : List ArcRef) → Has us (gathered (λ (g : Geom). body_rings g.body) gs) → Has us (layers_rings ls)) → HaveFeatures t.arcs gs
  geometries_have [] b i j = tt
  geometries_have (g ∷ gs) b i j = (
    feature_of g b.0
        (λ us h. i us (Has-append_left us (body_lines g.body) (gathered (λ (g : Geom). body_lines g.body) gs) h))
        (λ us h. j us (Has-append_left us (body_rings g.body) (gathered (λ (g : Geom). body_rings g.body) gs) h)),
    geometries_have gs b.1
        (λ us h. i us (Has-append_right us (body_lines g.body) (gathered (λ (g : Geom). body_lines g.body) gs) h))
        (λ us h. j us (Has-append_right us (body_rings g.body) (gathered (λ (g : Geom). body_rings g.body) gs) h)),
  )

  layers_have : (ks : List LayerParts) → HaveI64 ks → ((us : List ArcRef) → Has us (layers_lines ks) → Has us (layers_lines ls)) →
      ((us : List ArcRef) → Has us (layers_rings ks) → Has us (layers_rings ls)) → LayersHaveFeatures t.arcs ks
  layers_have [] b i j = tt
  layers_have (l ∷ ks) b i j = (
    geometries_have l.geometries b.0
        (λ us h. i us (Has-append_left us (layer_lines l) (layers_lines ks) h))
        (λ us h. j us (Has-append_left us (layer_rings l) (layers_rings ks) h)),
    layers_have ks b.1
        (λ us h. i us (Has-append_right us (layer_lines l) (layers_lines ks) h))
        (λ us h. j us (Has-append_right us (layer_rings l) (layers_rings ks) h)),
  )

pub geometries_have_features : law.GeometriesHaveFeatures
geometries_have_features t ls st b = layers_have t ls st ls b (λ us h. h) (λ us h. h)
