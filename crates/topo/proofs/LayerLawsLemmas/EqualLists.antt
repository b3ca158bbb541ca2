-- Features are equal exactly where the lists of their geometries are.
use Rattle.std.proofs.Common.{◌≡◌, List, refl, sym, ap, ◌∙◌, subst}
use Rattle.grid.specs.declared.pos.Pos.{Pos}
use Rattle.lines.specs.Turned.{position_cmp}
use Rattle.shapes.specs.declared.feature.Feature.{Feature}
use Rattle.chains.specs.Seen as seen_by
use Rattle.theory.specs.ArcNumbers.{StitchTo}
use Rattle.theory.specs.Arcs.{AreArcsOf}
use Rattle.theory.specs.Geometry.{Geometry, IsSound, JunctionOf}
use Rattle.theory.specs.Lists.{Pairwise}
use Rattle.theory.specs.Topology.{Shape, null, point, points, line, lines, polygon, polygons, IsFormOf, IsRingList}
use Rattle.theory.proofs.ListsOfLists.{Pairwise-same}
use Rattle.theory.proofs.ProvedLaws.{one_list_of_a_ring, one_list_of_numbers}
use Rattle.topo.specs.Features.{IsFeatureOf}
use Rattle.topo.specs.OfMap.{body_of}
use Rattle.topo.specs.Bodies as bodies
use Rattle.shapes.specs.declared.form.Form.TheVariants as to
use Rattle.topo.specs.declared.geom.Geom.{Geom}
use Rattle.topo.proofs.Stitched.{feature_of}
use Rattle.topo.specs.LayerLaws.CutLaws.{EqualFeaturesEqualLists, IsListedFor, SameLists}
use Rattle.topo.proofs.LayerLawsLemmas.OneMap.{one_feature}
use Rattle.topo.proofs.LayerLawsLemmas.RecutGeometries.{order}

module _ (g : Geometry Pos) (sound : IsSound g) (arcs : List (List Pos)) (all : AreArcsOf position_cmp g arcs) where
  abbrev J : Pos → Type 0
  J = JunctionOf g

  -- at most one body is that of a shape
  one_body : (s : Shape Pos) (a b : bodies.Body) → IsFormOf (λ l used. StitchTo arcs used l) (IsRingList position_cmp J arcs) s (body_of a) →
      IsFormOf (λ l used. StitchTo arcs used l) (IsRingList position_cmp J arcs) s (body_of b) → a ≡ b
  one_body null to.Null to.Null h k = refl
  one_body (point p) (to.Point q) (to.Point r) h k = ap to.Point (sym h ∙ k)
  one_body (points ps) (to.MultiPoint qs) (to.MultiPoint rs) h k = ap to.MultiPoint (sym h ∙ k)
  one_body (line l) (to.Line u) (to.Line v) h k = ap to.Line (one_list_of_numbers position_cmp g order sound arcs all l u v h k)
  one_body (lines ls) (to.MultiLine us) (to.MultiLine vs) h k =
      ap to.MultiLine (Pairwise-same (λ l used. StitchTo arcs used l) (one_list_of_numbers position_cmp g order sound arcs all) ls us vs h k)
  one_body (polygon rs) (to.Polygon us) (to.Polygon vs) h k =
      ap to.Polygon (Pairwise-same (IsRingList position_cmp J arcs) (one_list_of_a_ring position_cmp g order sound arcs all) rs us vs h k)
  one_body (polygons ps) (to.MultiPolygon us) (to.MultiPolygon vs) h k =
      ap to.MultiPolygon (Pairwise-same (Pairwise (IsRingList position_cmp J arcs))
      (Pairwise-same (IsRingList position_cmp J arcs) (one_list_of_a_ring position_cmp g order sound arcs all)) ps us vs h k)
  one_body s a b h k = search

  equal_lists : (f h : Feature) (a b : Geom) → IsListedFor g arcs f a → IsListedFor g arcs h b → f ≡ h → SameLists a b
  equal_lists f h a b k m e =
      let n = subst (λ x. IsListedFor g arcs x b) (sym e) m in
      let info = sym k.info ∙ n.info in
      (ap (λ i. i.0) info, ap (λ i. i.1) info, one_body (seen_by.form_of f.shape) a.body b.body k.form n.form)

  equal_features : (f h : Feature) (a b : Geom) → IsListedFor g arcs f a → IsListedFor g arcs h b → SameLists a b → f ≡ h
  equal_features f h a b k m (id, props, body) =
      let same : a ≡ b = λ i. record { id = id i; props = props i; body = body i } in
      one_feature arcs f h b (subst (IsFeatureOf arcs f) same (feature_of J arcs f a k)) (feature_of J arcs h b m)

pub equal_features_equal_lists : EqualFeaturesEqualLists
equal_features_equal_lists g sound arcs all f h a b k m = (equal_lists g sound arcs all f h a b k m, equal_features g sound arcs all f h a b k m)
