-- The text of a geometry, read off the arcs, is that of its feature.
use Rattle.std.proofs.Common.{◌≡◌, ℕ, List, [], ◌∷◌, ◌++◌, refl, sym, ap, ◌∙◌, append_assoc, codes, Some}
use Rattle.std.specs.Prelude.{map as map_list}
use Rattle.grid.specs.Place.{Transform}
use Rattle.grid.specs.declared.pos.Pos.{Pos}
use Rattle.lines.specs.Seen.{positions_of, vertices_of}
use Rattle.lines.specs.Turned.{position_cmp}
use Rattle.lines.specs.declared.line.Line as the_line
use Rattle.lines.specs.declared.ring.Ring as the_ring
use Rattle.shapes.specs.Parts.{properties_text}
use Rattle.shapes.specs.declared.feature.Feature.{Feature}
use Rattle.shapes.specs.Shapes.{Shape}
use Rattle.shapes.specs.declared.form.Form.TheVariants as of
use Rattle.sinks.specs.Texts.{after_comma, after_commas, joined, bracketed, list_text}
use Rattle.geojson_io.specs.CollectionText.{place_text, line_text, ring_text, geometry_text, shape_text, feature_frame, feature_text}
use Rattle.theory.specs.ArcNumbers.{ArcRef, StitchTo}
use Rattle.theory.specs.LinesAndRings.{closed}
use Rattle.theory.specs.Lists.{Pairwise}
use Rattle.theory.specs.Topology.{IsFormOf, IsGeometryOf, IsRingList}
use Rattle.chains.specs.Seen as seen_by
use Rattle.topo.specs.OfMap.{body_of, item_of}
use Rattle.topo.specs.Parts.{TopologyParts}
use Rattle.topo.specs.Bodies.{Body}
use Rattle.topo.specs.declared.geom.Geom.{Geom}
use Rattle.topo.proofs.Walks.{walked_stitched}
use Rattle.query.specs.ByArcs.{turned_at, line_along, ring_along, body_text, geom_text}
use Rattle.query.specs.Steps.{least_step, behind_step, up_to_step}
use Rattle.arcs.specs.declared.step.ArcStep.{ArcStep}
use Rattle.query.proofs.Turns.{started_at, turned_back}

-- ---- lists whose members have the same texts, index by index

module _ {A C D : Type 0} (R : C → D → Type 0) (h : A → C) (f : A → List ℕ) (g : D → List ℕ) (same : (x : A) (y : D) → R (h x) y → f x ≡ g y) where
  commas_same : (xs : List A) (ys : List D) → Pairwise R (map_list h xs) ys → after_commas f xs ≡ after_commas g ys
  commas_same [] [] p = refl
  commas_same [] (y ∷ ys) p = absurd p
  commas_same (x ∷ xs) [] p = absurd p
  commas_same (x ∷ xs) (y ∷ ys) p = λ i. (codes "," ++ same x y p.0 i) ++ commas_same xs ys p.1 i

  pub joined_same : (xs : List A) (ys : List D) → Pairwise R (map_list h xs) ys → joined f xs ≡ joined g ys
  joined_same [] [] p = refl
  joined_same [] (y ∷ ys) p = absurd p
  joined_same (x ∷ xs) [] p = absurd p
  joined_same (x ∷ xs) (y ∷ ys) p = λ i. same x y p.0 i ++ commas_same xs ys p.1 i

  list_same : (xs : List A) (ys : List D) → Pairwise R (map_list h xs) ys → list_text f xs ≡ list_text g ys
  list_same xs ys p = ap bracketed (joined_same xs ys p)

commas_append : {A : Type 0} (f : A → List ℕ) (xs ys : List A) → after_commas f (xs ++ ys) ≡ after_commas f xs ++ after_commas f ys
commas_append f [] ys = refl
commas_append f (x ∷ xs) ys = ap (λ w. after_comma f x ++ w) (commas_append f xs ys) ∙ sym (append_assoc (after_comma f x) (after_commas f xs) (after_commas f ys))

-- ---- lines and rings

line_same : (t : TopologyParts) (l : List Pos) (used : List ArcRef) → StitchTo t.arcs.arcs used l → line_text t.grid l ≡ line_along t used
line_same t l used h = ap (list_text (place_text t.grid)) (sym (walked_stitched t.arcs.arcs used l h))

started_text : (g : Transform) (s : ArcStep) (w : List Pos) → turned_at g w (Some s) ≡ joined (place_text g) (started_at s w)
started_text g s w =
    let behind : List ℕ = after_commas (place_text g) (behind_step s w) in
    let up_to : List ℕ = after_commas (place_text g) (up_to_step s w) in
    ap (λ l. place_text g s.from ++ l)
    (sym (append_assoc (codes ",") (place_text g s.to) (behind ++ up_to))
    ∙ ap (λ l. (codes "," ++ place_text g s.to) ++ l) (sym (commas_append (place_text g) (behind_step s w) (up_to_step s w))))

ring_same : (t : TopologyParts) (J : Pos → Type 0) (r : the_ring.Ring) (used : List ArcRef) → IsRingList position_cmp J t.arcs.arcs (vertices_of r) used →
    ring_text t.grid (vertices_of r) ≡ ring_along t used
ring_same t J r used (x, l, turned, stitched) =
    let f : List Pos = x ∷ l in
    let k = turned_back r f turned.rotation in
    sym (ap bracketed
    (ap (λ w. turned_at t.grid w (least_step w)) (walked_stitched t.arcs.arcs used (closed f) stitched)
    ∙ ap (turned_at t.grid (closed f)) k.is
    ∙ started_text t.grid k.least (closed f)
    ∙ ap (joined (place_text t.grid)) k.started))

lines_same : (t : TopologyParts) (ls : List the_line.Line) (ks : List (List ArcRef)) → Pairwise (λ l used. StitchTo t.arcs.arcs used l) (map_list seen_by.line_of ls) ks →
    list_text (λ l. line_text t.grid (positions_of l)) ls ≡ list_text (line_along t) ks
lines_same t ls ks h =
    list_same (λ l used. StitchTo t.arcs.arcs used l) seen_by.line_of (λ l. line_text t.grid (positions_of l)) (line_along t)
    (λ l used k. line_same t (positions_of l) used k) ls ks h

rings_same : (t : TopologyParts) (J : Pos → Type 0) (rs : List the_ring.Ring) (qs : List (List ArcRef)) →
    Pairwise (IsRingList position_cmp J t.arcs.arcs) (map_list seen_by.ring_of rs) qs →
    list_text (λ r. ring_text t.grid (vertices_of r)) rs ≡ list_text (ring_along t) qs
rings_same t J rs qs h =
    list_same (IsRingList position_cmp J t.arcs.arcs) seen_by.ring_of (λ r. ring_text t.grid (vertices_of r)) (ring_along t)
    (λ r used k. ring_same t J r used k) rs qs h

polygons_same : (t : TopologyParts) (J : Pos → Type 0) (ps : List (List the_ring.Ring)) (qs : List (List (List ArcRef))) →
    Pairwise (Pairwise (IsRingList position_cmp J t.arcs.arcs)) (map_list (map_list seen_by.ring_of) ps) qs →
    list_text (list_text (λ r. ring_text t.grid (vertices_of r))) ps ≡ list_text (list_text (ring_along t)) qs
polygons_same t J ps qs h =
    list_same (Pairwise (IsRingList position_cmp J t.arcs.arcs)) (map_list seen_by.ring_of) (list_text (λ r. ring_text t.grid (vertices_of r))) (list_text (ring_along t))
    (λ rs used k. rings_same t J rs used k) ps qs h

-- ---- shapes and features

shape_same : (t : TopologyParts) (J : Pos → Type 0) (s : Shape) (b : Body) →
    IsFormOf (λ l used. StitchTo t.arcs.arcs used l) (IsRingList position_cmp J t.arcs.arcs) (seen_by.form_of s) (body_of b) → shape_text t.grid s ≡ body_text t b
shape_same t J of.Null of.Null h = refl
shape_same t J (of.Point p) (of.Point q) h = ap (λ w. geometry_text (place_text t.grid w) (codes "Point")) h
shape_same t J (of.MultiPoint ps) (of.MultiPoint qs) h = ap (λ w. geometry_text (list_text (place_text t.grid) w) (codes "MultiPoint")) h
shape_same t J (of.Line l) (of.Line used) h = ap (λ w. geometry_text w (codes "LineString")) (line_same t (positions_of l) used h)
shape_same t J (of.MultiLine ls) (of.MultiLine ks) h = ap (λ w. geometry_text w (codes "MultiLineString")) (lines_same t ls ks h)
shape_same t J (of.Polygon rs) (of.Polygon qs) h = ap (λ w. geometry_text w (codes "Polygon")) (rings_same t J rs qs h)
shape_same t J (of.MultiPolygon ps) (of.MultiPolygon qs) h = ap (λ w. geometry_text w (codes "MultiPolygon")) (polygons_same t J ps qs h)
shape_same t J s b h = absurd h

pub feature_same : (t : TopologyParts) (J : Pos → Type 0) (f : Feature) (g : Geom) → IsGeometryOf position_cmp J t.arcs.arcs (seen_by.item_of f) (item_of g) →
    feature_text t.grid f ≡ geom_text t g
feature_same t J f g h = λ i. feature_frame (h.info i).0 (properties_text (h.info i).1) (shape_same t J f.shape g.body h.form i)

unmapped : {A B C : Type 0} (R : A → C → Type 0) (k : B → C) (xs : List A) (ys : List B) → Pairwise R xs (map_list k ys) → Pairwise (λ x y. R x (k y)) xs ys
unmapped R k [] [] p = tt
unmapped R k [] (y ∷ ys) p = absurd p
unmapped R k (x ∷ xs) [] p = absurd p
unmapped R k (x ∷ xs) (y ∷ ys) p = (p.0, unmapped R k xs ys p.1)

-- the features in order, and their geometries
pub features_same : (t : TopologyParts) (J : Pos → Type 0) (fs : List Feature) (gs : List Geom) →
    Pairwise (IsGeometryOf position_cmp J t.arcs.arcs) (map_list seen_by.item_of fs) (map_list item_of gs) →
    joined (feature_text t.grid) fs ≡ joined (geom_text t) gs
features_same t J fs gs h =
    joined_same (λ x g. IsGeometryOf position_cmp J t.arcs.arcs x (item_of g)) seen_by.item_of (feature_text t.grid) (geom_text t) (feature_same t J) fs gs
    (unmapped (IsGeometryOf position_cmp J t.arcs.arcs) item_of (map_list seen_by.item_of fs) gs h)
