-- The geometries of a topology's layers after its arcs are cut again are those of the same features.
use Rattle.std.proofs.Common.{◌≡◌, ℕ, List, [], ◌∷◌, inl, inr, refl, sym, subst}
use Rattle.std.specs.Prelude.{map as map_list}
use Rattle.std.specs.FinMap as map
use Rattle.grid.specs.declared.pos.Pos.{Pos}
use Rattle.lines.specs.Positions.{position_total, position_same}
use Rattle.lines.specs.Turned.{position_cmp}
use Rattle.shapes.specs.Maps.{Features, Layers}
use Rattle.shapes.specs.Parts.{spelled_text}
use Rattle.shapes.specs.Sets as set
use Rattle.shapes.specs.declared.feature.Feature.{Feature}
use Rattle.chains.specs.Seen as seen_by
use Rattle.chains.specs.Seen.{geometry_of, seen}
use Rattle.theory.specs.ArcNumbers.{ArcRef, StitchTo}
use Rattle.theory.specs.Geometry.{JunctionOf}
use Rattle.theory.specs.Laws.{IsOrder}
use Rattle.theory.specs.Lists.{Has, Pairwise}
use Rattle.theory.specs.Refinement.{IsPartOf, IsRefinementOf}
use Rattle.theory.specs.Topology.{IsFormOf, IsGeometryOf, IsLayerOf, IsRingList, lines_in, rings_in}
use Rattle.theory.specs.TopologyFunction.{form_map}
use Rattle.theory.proofs.ProvedLaws as law
use Rattle.topo.specs.OfMap.{body_of, item_of, layer_of}
use Rattle.topo.specs.Parts.{LayerParts}
use Rattle.topo.specs.Bodies as bodies
use Rattle.shapes.specs.declared.form.Form.TheVariants as to
use Rattle.topo.specs.declared.geom.Geom.{Geom}
use Rattle.topo.proofs.Sound.{are_sound}
use Rattle.arcs.specs.ListRules.{ListRule}
use Rattle.topo.specs.Rewritten.{body_rewritten}
use Rattle.topo.specs.LayerLaws.Cuts.{geometry_recut, line_recut, ring_recut}
use Rattle.topo.proofs.LayerLawsLemmas.UnitedGeometry.{gives}

-- positions have an order
pub order : IsOrder position_cmp
order = record { total = position_total; same = position_same }

-- a body by other lists, as the definitions see it
pub body_seen : (line ring : ListRule) (b : bodies.Body) → body_of (body_rewritten line ring b) ≡ form_map line ring (body_of b)
body_seen line ring to.Null = refl
body_seen line ring (to.Point p) = refl
body_seen line ring (to.MultiPoint ps) = refl
body_seen line ring (to.Line used) = refl
body_seen line ring (to.MultiLine lists) = refl
body_seen line ring (to.Polygon lists) = refl
body_seen line ring (to.MultiPolygon ps) = refl

-- the geometry, cut again, is that of the feature
abbrev pub IsRecutFor : (Pos → Type 0) → List (List Pos) → List (List ArcRef) → Feature → Geom → Type 0
IsRecutFor J table pieces f h = IsGeometryOf position_cmp J table (seen_by.item_of f) (item_of (geometry_recut table pieces h))

-- the layer has the entry's name, and its geometries, cut again, are those of the entry's features
pub record IsLayerRecut (J : Pos → Type 0) (table : List (List Pos)) (pieces : List (List ArcRef)) (e : List ℕ × Features) (l : LayerParts) : Type 0 where
  pub name : e.0 ≡ spelled_text l.name
  pub items : Pairwise (IsRecutFor J table pieces) (set.items e.1) l.geometries

module _ (m u : Layers) (part : IsPartOf (geometry_of m) (geometry_of u)) (arcs table : List (List Pos)) (pieces : List (List ArcRef))
    (cut : IsRefinementOf position_cmp (geometry_of m) (geometry_of u) arcs table pieces) where
  abbrev Old : Feature → Geom → Type 0
  Old f h = IsGeometryOf position_cmp (JunctionOf (geometry_of m)) arcs (seen_by.item_of f) (item_of h)

  abbrev New : Feature → Geom → Type 0
  New = IsRecutFor (JunctionOf (geometry_of u)) table pieces

  pub geometry_after_recut : (e : List ℕ × Features) (f : Feature) (h : Geom) → Has e (map.entries m) → Has f (set.items e.1) → Old f h → New f h
  geometry_after_recut e f h there at old = record {
    info = old.info;
    form = subst (IsFormOf (λ l used. StitchTo table used l) (IsRingList position_cmp (JunctionOf (geometry_of u)) table) (seen_by.form_of f.shape)) (sym (body_seen (line_recut pieces) (ring_recut table pieces) h.body))
        (law.body_after_a_recut position_cmp (geometry_of m) (geometry_of u) order (are_sound m) (are_sound u) part arcs table pieces cut (seen_by.form_of f.shape) (body_of h.body)
        (λ l k. gives lines_in m e f l there at k) (λ r k. gives rings_in m e f r there at k) old.form);
  }

  pub geometries_after_recut : (e : List ℕ × Features) → Has e (map.entries m) → (fs : List Feature) (hs : List Geom) → ((f : Feature) → Has f fs → Has f (set.items e.1)) →
      Pairwise (IsGeometryOf position_cmp (JunctionOf (geometry_of m)) arcs) (map_list seen_by.item_of fs) (map_list item_of hs) → Pairwise New fs hs
  geometries_after_recut e there [] [] k p = tt
  geometries_after_recut e there [] (h ∷ hs) k p = absurd p
  geometries_after_recut e there (f ∷ fs) [] k p = absurd p
  geometries_after_recut e there (f ∷ fs) (h ∷ hs) k p = (
    geometry_after_recut e f h there (k f (inl refl)) p.0,
    geometries_after_recut e there fs hs (λ g i. k g (inr i)) p.1,
  )

  layers_from : (es : List (List ℕ × Features)) (ls : List LayerParts) → ((e : List ℕ × Features) → Has e es → Has e (map.entries m)) →
      Pairwise (IsLayerOf position_cmp (JunctionOf (geometry_of m)) arcs) (map_list seen_by.layer_of es) (map_list layer_of ls) →
      Pairwise (IsLayerRecut (JunctionOf (geometry_of u)) table pieces) es ls
  layers_from [] [] k p = tt
  layers_from [] (l ∷ ls) k p = absurd p
  layers_from (e ∷ es) [] k p = absurd p
  layers_from (e ∷ es) (l ∷ ls) k p = (
    record { name = p.0.name; items = geometries_after_recut e (k e (inl refl)) (set.items e.1) l.geometries (λ f i. i) p.0.items },
    layers_from es ls (λ d i. k d (inr i)) p.1,
  )

  -- all layers of the map's topology
  pub layers_after_recut : (ls : List LayerParts) → Pairwise (IsLayerOf position_cmp (JunctionOf (geometry_of m)) arcs) (seen m) (map_list layer_of ls) →
      Pairwise (IsLayerRecut (JunctionOf (geometry_of u)) table pieces) (map.entries m) ls
  layers_after_recut ls p = layers_from (map.entries m) ls (λ e i. i) p
