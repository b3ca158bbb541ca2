-- The borders between features: the segments that a filter selects, and the lines over them.
use Rattle.std.specs.Prelude.{◌≡◌, ◌↔◌, ◌⊎◌, ℕ, Bool, true, false, IsTrue, List, Option, Some, None}
use Rattle.std.specs.Borrow.{Bor}
use Rattle.std.specs.FinMap as map
use Rattle.std.specs.Fn.{Shared}
use Rattle.grid.specs.declared.pos.Pos.{Pos}
use Rattle.shapes.specs.Maps.{Layers, features_at}
use Rattle.shapes.specs.Order.{feature_cmp}
use Rattle.shapes.specs.Sets as set
use Rattle.shapes.specs.declared.feature.Feature.{Feature}
use Rattle.arcs.specs.Arcs.{Arcs}
use Rattle.chains.specs.Joined.{AmongSegments, AreMaximal}
use Rattle.chains.specs.Seen.{form_of}
use Rattle.chains.specs.declared.segment.Segment.{Segment}
use Rattle.theory.specs.Geometry.{AtMost}
use Rattle.theory.specs.Lists.{Has}
use Rattle.theory.specs.Users.{HasSegment}
use Rattle.topo.specs.ItsMap.{ForItsMap}
use Rattle.topo.specs.Parts.{TopologyParts}
use Rattle.query.specs.Stops.{AreStops}
use Rattle.query.specs.declared.edges.Edges.{Edges}
use Rattle.query.specs.declared.edges.Edges.TheVariants.{All, Interior, Exterior}

-- the feature is one of the layer, or without a layer one of any layer [topojson-client (mesh)]
abbrev pub InScope : Layers → Option (List ℕ) → Feature → Type 0
InScope m (Some name) f = Has f (set.items (features_at m name))
InScope m None f = (name : List ℕ) × Has f (set.items (features_at m name))

-- a layer is named, and the map has none of that name [topojson-client (mesh)]
abbrev pub IsMissing : Layers → Option (List ℕ) → Type 0
IsMissing m (Some name) = ¬ IsTrue (map.contains_key m name)
IsMissing m None = ⊥

-- f may be called on references to a and b
abbrev pub MayAsk : {F : Type 0} → Shared F (Bor Feature × (Bor Feature × Unit {0})) Bool → F → Feature → Feature → Type 0
MayAsk g f a b = (v w : Bor Feature) → v.now ≡ a → w.now ≡ b → g.pre f (v, (w, tt))

-- f may be called on references to any two features in scope
abbrev pub MayAskWithin : {F : Type 0} → Shared F (Bor Feature × (Bor Feature × Unit {0})) Bool → F → (Feature → Type 0) → Type 0
MayAskWithin g f In = (a b : Feature) → In a → In b → MayAsk g f a b

-- the answer of the edges to the least and the greatest feature that have a segment: yes to any, to two, or to one
-- [topojson-client (mesh)]
abbrev pub Answers : Edges → Feature → Feature → Bool → Type 0
Answers All f g b = b ≡ true
Answers Interior f g b = IsTrue b ↔ (¬ (f ≡ g))
Answers Exterior f g b = IsTrue b ↔ (f ≡ g)

-- u and v are neighbours on a line or a ring of the feature
-- [topojson-client (mesh); which two features are asked about own]
abbrev pub HasSide : Pos → Pos → Feature → Type 0
HasSide u v f = HasSegment u v (form_of f.shape)

-- of the features in scope that have the segment, the first in the order of features
-- [topojson-client (mesh); which two features are asked about own]
pub record IsLeastWith (In : Feature → Type 0) (u v : Pos) (f : Feature) : Type 0 where
  pub within : In f
  pub has : HasSide u v f
  pub least : (g : Feature) → In g → HasSide u v g → AtMost feature_cmp f g

-- and the last [topojson-client (mesh); which two features are asked about own]
pub record IsGreatestWith (In : Feature → Type 0) (u v : Pos) (f : Feature) : Type 0 where
  pub within : In f
  pub has : HasSide u v f
  pub greatest : (g : Feature) → In g → HasSide u v g → AtMost feature_cmp g f

-- the segments are those of features in scope for whose least and greatest feature the answer was yes; for each other it was no
-- [topojson-client (mesh)]
pub record AreSelected (In : Feature → Type 0) (Says : Feature → Feature → Bool → Type 0) (segs : List Segment) : Type 0 where
  pub only : (u v : Pos) → AmongSegments u v segs → (a : Feature) × (b : Feature) × IsLeastWith In u v a × IsGreatestWith In u v b × Says a b true
  pub all : (u v : Pos) (a b : Feature) → IsLeastWith In u v a → IsGreatestWith In u v b → AmongSegments u v segs ⊎ Says a b false

-- the lines are the maximal chains over the segments, which stop at the vertices that lie on one segment, or on three or more
-- [topojson-client (mesh); order and direction own]
pub record AreLinesOver (segs : List Segment) (lines : Arcs) : Type 0 where
  pub stops : List Pos
  pub exact : AreStops segs stops
  pub maximal : AreMaximal segs stops lines

-- the lines are those over the segments that the answers select among the features in scope [topojson-client (mesh)]
abbrev pub AreBorders : TopologyParts → Option (List ℕ) → (Feature → Feature → Bool → Type 0) → Arcs → Type 0
AreBorders t name Says lines = (segments : List Segment) × AreLinesOver segments lines × ForItsMap t (λ m. AreSelected (InScope m name) Says segments)
