-- The features in scope of a question, beside the bodies that hold them by arcs.
use Rattle.std.specs.Prelude.{◌≡◌, ℕ, false, List, [], ◌∷◌, Option, Some, None}
use Rattle.std.specs.Ordering.{is_gt}
use Rattle.std.specs.declared.cmp.Ordering.{Ordering}
use Rattle.lines.specs.Turned.{position_cmp}
use Rattle.shapes.specs.Maps.{Layers, features_at}
use Rattle.shapes.specs.Order.{feature_cmp}
use Rattle.shapes.specs.Parts.{spelled_text}
use Rattle.shapes.specs.Sets as set
use Rattle.shapes.specs.declared.feature.Feature.{Feature}
use Rattle.chains.specs.Seen.{form_of, geometry_of, seen}
use Rattle.theory.specs.ArcNumbers.{StitchTo}
use Rattle.theory.specs.Geometry.{JunctionOf}
use Rattle.theory.specs.Lists.{Has}
use Rattle.theory.specs.Topology.{IsFormOf, IsRingList, forms_of}
use Rattle.topo.specs.OfMap.{body_of}
use Rattle.topo.specs.Parts.{LayerParts, TopologyParts}
use Rattle.topo.specs.Bodies.{Body}
use Rattle.topo.specs.declared.geom.Geom.{Geom}
use Rattle.query.specs.Mesh.{InScope}
use Rattle.query.specs.declared.members.Member.{Member}

-- a feature and its body
abbrev pub held : Member → Feature × Body
held p = (p.feature, p.body.now)

-- the features and the bodies of their geometries, one by one
abbrev pub paired : List Feature → List Geom → List (Feature × Body)
paired [] gs = []
paired (f ∷ fs) [] = []
paired (f ∷ fs) (g ∷ gs) = (f, g.body) ∷ paired fs gs

-- those of a layer
abbrev pub layer_pairs : Layers → LayerParts → List (Feature × Body)
layer_pairs m l = paired (set.items (features_at m (spelled_text l.name))) l.geometries

-- the body holds the feature by the arcs of the topology of the map
abbrev pub Holds : Layers → TopologyParts → Feature → Body → Type 0
Holds m t f b = IsFormOf (λ l used. StitchTo t.arcs.arcs used l) (IsRingList position_cmp (JunctionOf (geometry_of m)) t.arcs.arcs) (form_of f.shape) (body_of b)

-- the layer of the name, or without a name all
abbrev pub AreLayersIn : TopologyParts → Option (List ℕ) → List LayerParts → Type 0
AreLayersIn t (Some name) ls = (l : LayerParts) × Has l t.layers × (spelled_text l.name ≡ name) × (ls ≡ l ∷ [])
AreLayersIn t None ls = ls ≡ t.layers

-- all features in scope, which are some of the map, with their bodies
pub record ArePairs (m : Layers) (t : TopologyParts) (scope : Option (List ℕ)) (pairs : List (Feature × Body)) : Type 0 where
  pub only : (f : Feature) (b : Body) → Has (f, b) pairs → InScope m scope f × Has (form_of f.shape) (forms_of (seen m)) × Holds m t f b
  pub all : (f : Feature) → InScope m scope f → (b : Body) × Has (f, b) pairs

-- a feature in scope, which is one of the map, with its body
pub record IsMember (m : Layers) (t : TopologyParts) (scope : Option (List ℕ)) (p : Member) : Type 0 where
  pub within : InScope m scope p.feature
  pub form : Has (form_of p.feature.shape) (forms_of (seen m))
  pub body : Holds m t p.feature p.body.now

-- members by their features
abbrev pub by_feature : Member → Member → Ordering
by_feature p q = feature_cmp p.feature q.feature

-- no member comes before an earlier one
abbrev pub InOrder : List Member → Type 0
InOrder [] = Unit {0}
InOrder (p ∷ ps) = ((q : Member) → Has q ps → is_gt (feature_cmp p.feature q.feature) ≡ false) × InOrder ps

-- all features in scope with their bodies, in order
pub record AreMembers (m : Layers) (t : TopologyParts) (scope : Option (List ℕ)) (ps : List Member) : Type 0 where
  pub only : (p : Member) → Has p ps → IsMember m t scope p
  pub all : (f : Feature) → InScope m scope f → (p : Member) × Has p ps × (p.feature ≡ f)
  pub ordered : InOrder ps
