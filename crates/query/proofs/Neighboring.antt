-- The lists of neighbours, from the lists of those that share arcs.
use Rattle.std.proofs.Common.{◌≡◌, ◌+◌, ℕ, zero, suc, List, [], ◌∷◌, length, map, refl, sym, ap, ◌∙◌, subst, Some, slice_get, arith}
use Rattle.grid.specs.declared.pos.Pos.{Pos}
use Rattle.lines.specs.Turned.{position_cmp}
use Rattle.shapes.specs.Maps.{Layers, features_at}
use Rattle.shapes.specs.Sets as set
use Rattle.shapes.specs.declared.feature.Feature.{Feature}
use Rattle.chains.specs.Seen as seen_by
use Rattle.chains.specs.Seen.{geometry_of}
use Rattle.theory.specs.Geometry.{JunctionOf}
use Rattle.theory.specs.Lists.{Has}
use Rattle.theory.specs.Topology.{Body, IsGeometryOf}
use Rattle.theory.specs.Users.{UsesArc}
use Rattle.theory.proofs.ListsOfLists.{get_has}
use Rattle.topo.specs.OfMap.{IsOf, body_of, item_of}
use Rattle.topo.specs.Parts.{IsOfLayerNamed, TopologyParts}
use Rattle.topo.specs.declared.geom.Geom.{Geom}
use Rattle.query.specs.ArcUsers.{AreListsBy}
use Rattle.query.specs.Neighbors.{AreNeighbors, ListsNeighbors}
use Rattle.query.specs.Uses.{bodies_uses, geometries_uses, use_at}
use Rattle.query.specs.declared.uses.Use.{Use}
use Rattle.query.proofs.LayerFeatures.{pair_at, pair_back, pair_length, named_features, layer_form, features_share, OfFeature, OfFeatures}
use Rattle.query.proofs.UsesOfBodies.{bodies_from, has_bodies}

pub body_at : (gs : List Geom) (i : ℕ) (b : Body Pos) → slice_get (map (λ g. body_of g.body) gs) i ≡ Some b → (g : Geom) × (slice_get gs i ≡ Some g) × (b ≡ body_of g.body)
body_at [] i b e = absurd cc
body_at (g ∷ gs) zero b e = let same : body_of g.body ≡ b = cc in (g, refl, sym same)
body_at (g ∷ gs) (suc i) b e = body_at gs i b e

pub at_body : (gs : List Geom) (i : ℕ) (g : Geom) → slice_get gs i ≡ Some g → slice_get (map (λ g. body_of g.body) gs) i ≡ Some (body_of g.body)
at_body [] i g e = absurd cc
at_body (h ∷ gs) zero g e = let same : h ≡ g = cc in ap (λ w. Some (body_of w.body)) same
at_body (h ∷ gs) (suc i) g e = at_body gs i g e

module _ (m : Layers) (t : TopologyParts) (of : IsOf m t) (name : List ℕ) (gs : List Geom) (under : IsOfLayerNamed t.layers name gs) where
  abbrev pub features : List Feature
  features = set.items (features_at m name)

  abbrev pub OfOne : Feature → Geom → Type 0
  OfOne f g = OfFeature m t of f g

  all : OfFeatures m t of features gs
  all = (named_features m t of name gs under).1

  feature_at : (i : ℕ) (g : Geom) → slice_get gs i ≡ Some g → (f : Feature) × (slice_get features i ≡ Some f) × OfOne f g
  feature_at i g e = pair_at (IsGeometryOf position_cmp (JunctionOf (geometry_of m)) t.arcs.arcs) seen_by.item_of item_of features gs all i g e

  pub geometry_at : (i : ℕ) (f : Feature) → slice_get features i ≡ Some f → (g : Geom) × (slice_get gs i ≡ Some g) × OfOne f g
  geometry_at i f e = pair_back (IsGeometryOf position_cmp (JunctionOf (geometry_of m)) t.arcs.arcs) seen_by.item_of item_of features gs all i f e

  -- the geometries are as many as the features
  pub features_count : length gs ≡ length features
  features_count = sym (pair_length (IsGeometryOf position_cmp (JunctionOf (geometry_of m)) t.arcs.arcs) seen_by.item_of item_of features gs all)

  -- the feature at the index of a use uses its arc
  user : (u : Use) → Has u (bodies_uses 0 (map (λ g. body_of g.body) gs)) →
      (f : Feature) × (g : Geom) × (slice_get features u.index ≡ Some f) × OfOne f g × UsesArc u.arc (body_of g.body)
  user u h =
      let (n, b, at, is, uses) = bodies_from (map (λ g. body_of g.body) gs) 0 u h in
      let (g, there, same) = body_at gs n b at in
      let (f, here, o) = feature_at n g there in
      let index : u.index ≡ n = omega (arith, is) in
      (f, g, subst (λ k. slice_get features k ≡ Some f) (sym index) here, o, subst (λ w. UsesArc u.arc w) same uses)

  used_at : (i k : ℕ) (g : Geom) → slice_get gs i ≡ Some g → UsesArc k (body_of g.body) → Has (use_at k i) (bodies_uses 0 (map (λ g. body_of g.body) gs))
  used_at i k g at uses =
      let e : 0 + i ≡ i = omega arith in
      subst (λ n. Has (use_at k n) (bodies_uses 0 (map (λ g. body_of g.body) gs))) e
      (has_bodies (map (λ g. body_of g.body) gs) 0 i k (body_of g.body) (at_body gs i g at) uses)

  pub neighbors_from : (i j k : ℕ) → Has (use_at k i) (geometries_uses gs) → Has (use_at k j) (geometries_uses gs) → ¬ (i ≡ j) → AreNeighbors features i j
  neighbors_from i j k hu hv n =
      let (f, g, at, o, uses) = user (use_at k i) hu in
      let (f', g', at', o', uses') = user (use_at k j) hv in
      let contained = (named_features m t of name gs under).0 in
      let key = features_share m t of f f' g g' (layer_form m name contained f (get_has features i f at)) (layer_form m name contained f' (get_has features j f' at')) o o' in
      record { apart = n; one = f; other = f'; at = at; beside = at'; share = key.1 (k, uses, uses') }

  pub from_neighbors : (i j : ℕ) → AreNeighbors features i j → (k : ℕ) × Has (use_at k i) (geometries_uses gs) × Has (use_at k j) (geometries_uses gs)
  from_neighbors i j r =
      let (g, at, o) = geometry_at i r.one r.at in
      let (g', at', o') = geometry_at j r.other r.beside in
      let contained = (named_features m t of name gs under).0 in
      let key = features_share m t of r.one r.other g g' (layer_form m name contained r.one (get_has features i r.one r.at))
      (layer_form m name contained r.other (get_has features j r.other r.beside)) o o' in
      let (k, uses, uses') = key.0 r.share in
      (k, used_at i k g at uses, used_at j k g' at' uses')

  pub lists_neighbors : (lists : List (List ℕ)) → AreListsBy gs [] lists → ListsNeighbors features lists
  lists_neighbors lists h = record {
    each = h.each ∙ features_count;
    ascend = h.ascend;
    exact = λ i js e j. (
      (λ k. let s = (h.exact i js e j).0 k in neighbors_from i j s.arc s.one s.other s.unlike),
      (λ r. let (k, one, other) = from_neighbors i j r in (h.exact i js e j).1 (record { arc = k; one = one; other = other; unlike = r.apart })),
    );
  }
