-- Which features differ in a property, the borders between them, and which of them are neighbours.
use Rattle.std.specs.Prelude.{◌≡◌, ◌↔◌, ◌⊎◌, ℕ, List, [], ◌∷◌, ◌++◌, Option, Some, None, cond, is_some, length, map, slice_get, unwrap_or}
use Rattle.std.specs.List.Sorted.{IsStrictlyIncreasing}
use Rattle.std.specs.Str.{bytes_eq}
use Rattle.grid.specs.declared.pos.Pos.{Pos}
use Rattle.shapes.specs.Parts.{properties_text}
use Rattle.shapes.specs.PropertyValues.{property_text}
use Rattle.shapes.specs.declared.feature.Feature.{Feature}
use Rattle.shapes.specs.declared.props.Props.{Props}
use Rattle.arcs.specs.Arcs.{Arcs}
use Rattle.chains.specs.Joined.{AmongSegments}
use Rattle.chains.specs.declared.segment.Segment.{Segment}
use Rattle.theory.specs.Lists.{Has}
use Rattle.topo.specs.ItsMap.{ForItsMap}
use Rattle.topo.specs.OfMap.{body_of}
use Rattle.topo.specs.Parts.{TopologyParts}
use Rattle.topo.specs.declared.geom.Geom.{Geom}
use Rattle.query.specs.Mesh.{AreLinesOver, HasSide, InScope}
use Rattle.query.specs.Neighbors.{AreNeighbors}
use Rattle.query.specs.Uses.{body_uses}
use Rattle.query.specs.declared.uses.Use.{Use}

-- the compact text of the value that the properties have under the name, if they have one that is not null
abbrev pub value_text : List ℕ → Props → Option (List ℕ)
value_text name p = property_text name (properties_text p)

-- both are a value, the same
abbrev pub AreOneValue : Option (List ℕ) → Option (List ℕ) → Type 0
AreOneValue v w = (t : List ℕ) × (v ≡ Some t) × (w ≡ Some t)

-- two features have not one value of the property: one without it differs from every other
pub record Differ (name : List ℕ) (f g : Feature) : Type 0 where
  pub apart : ¬ (f ≡ g)
  pub unlike : ¬ AreOneValue (value_text name f.props) (value_text name g.props)

-- the segments are those that two features in scope have which differ
pub record AreDividing (In : Feature → Type 0) (name : List ℕ) (segs : List Segment) : Type 0 where
  pub only : (u v : Pos) → AmongSegments u v segs → (a : Feature) × (b : Feature) × In a × In b × HasSide u v a × HasSide u v b × Differ name a b
  pub all : (u v : Pos) (a b : Feature) → In a → In b → HasSide u v a → HasSide u v b → Differ name a b → AmongSegments u v segs

-- the lines are those over the segments at which features in scope differ
abbrev pub AreBordersBy : TopologyParts → Option (List ℕ) → List ℕ → Arcs → Type 0
AreBordersBy t scope name lines = (segments : List Segment) × AreLinesOver segments lines × ForItsMap t (λ m. AreDividing (InScope m scope) name segments)

-- neighbours that differ
pub record AreNeighborsBy (name : List ℕ) (fs : List Feature) (i j : ℕ) : Type 0 where
  pub neighbors : AreNeighbors fs i j
  pub differ : Differ name neighbors.one neighbors.other

-- one list for each feature, in order: the indexes of those of its neighbours that differ from it, ascending
pub record ListsNeighborsBy (name : List ℕ) (fs : List Feature) (lists : List (List ℕ)) : Type 0 where
  pub each : length lists ≡ length fs
  pub ascend : (i : ℕ) (js : List ℕ) → slice_get lists i ≡ Some js → IsStrictlyIncreasing js
  pub exact : (i : ℕ) (js : List ℕ) → slice_get lists i ≡ Some js → (j : ℕ) → Has j js ↔ AreNeighborsBy name fs i j

-- the values of geometries
abbrev pub values_of : List ℕ → List Geom → List (Option (List ℕ))
values_of name gs = map (λ g. value_text name g.props) gs

-- a number for each value, which two indexes have in common where they are one, or have one value
pub record AreClasses (vs : List (Option (List ℕ))) (cs : List ℕ) : Type 0 where
  pub each : length cs ≡ length vs
  pub exact : (i j c d : ℕ) (v w : Option (List ℕ)) → slice_get vs i ≡ Some v → slice_get vs j ≡ Some w → slice_get cs i ≡ Some c → slice_get cs j ≡ Some d →
      (c ≡ d) ↔ ((i ≡ j) ⊎ AreOneValue v w)

-- the class of the value at an index, where the classes of texts are known
abbrev pub class_in : (List ℕ → Option ℕ) → ℕ → Option (List ℕ) → ℕ
class_in at p None = p
class_in at p (Some t) = unwrap_or (at t) p

-- and what is known then
abbrev pub known_then : (List ℕ → Option ℕ) → ℕ → Option (List ℕ) → List ℕ → Option ℕ
known_then at p None q = at q
known_then at p (Some t) q = cond (is_some (at t)) (at q) (cond (bytes_eq t q) (Some p) (at q))

-- the uses of arcs by the geometries, each by its class
abbrev pub class_uses : List ℕ → List Geom → List Use
class_uses [] gs = []
class_uses (c ∷ cs) [] = []
class_uses (c ∷ cs) (g ∷ gs) = body_uses c (body_of g.body) ++ class_uses cs gs
