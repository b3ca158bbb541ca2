-- The index of a map's junctions.
use Rattle.std.specs.Prelude.{◌≡◌, List, ◌++◌}
use Rattle.theory.specs.Lists.{Has, EndOf, gathered}
use Rattle.theory.specs.Topology.{Shape, lines_in, rings_in}
use Rattle.theory.specs.Junction.{Visits}
use Rattle.theory.specs.Junction.Visit.{end, pair}
use Rattle.theory.specs.Geometry.{Geometry, IsLineOf, IsRingOf, JunctionOf}
use Rattle.grid.specs.declared.pos.Pos.{Pos}
use Rattle.shapes.specs.Maps.{set_of}
use Rattle.shapes.specs.Sets as set
use Rattle.shapes.specs.declared.feature.Feature.{Feature}
use Rattle.shapes.specs.declared.layer.FeatureLayer.{FeatureLayer}
use Rattle.chains.specs.Seen.{form_of}
use Rattle.chains.specs.Visits.{visit_of, inner_of, around_of, ends_of}
use Rattle.chains.specs.declared.visits.Visit.{Visit}

-- the list holds the junctions of the lines and rings, and nothing else
-- [topojson-server; own for the ends of a closed line]
pub record IsIndexOf (junctions : List Pos) (g : Geometry Pos) : Type 0 where
  pub all : (v : Pos) → JunctionOf g v → Has v junctions
  pub only : (v : Pos) → Has v junctions → JunctionOf g v

-- v is the first or the last vertex of a line [topojson-server]
abbrev pub EndsALine : Geometry Pos → Pos → Type 0
EndsALine g v = (l : List Pos) × IsLineOf g l × EndOf v l

-- the ends and the other visits of the lines and rings, and nothing else
pub record AreVisitsOf (ends : List Pos) (visits : List Visit) (g : Geometry Pos) : Type 0 where
  pub ends_all : (v : Pos) → Visits (IsLineOf g) (IsRingOf g) v end → Has v ends
  pub ends_only : (v : Pos) → Has v ends → Visits (IsLineOf g) (IsRingOf g) v end
  pub pairs_all : (a v b : Pos) → Visits (IsLineOf g) (IsRingOf g) v (pair a b) → Has (visit_of a v b) visits
  pub pairs_only : (w : Visit) → Has w visits → (a : Pos) × (b : Pos) × (w ≡ visit_of a w.vertex b) × Visits (IsLineOf g) (IsRingOf g) w.vertex (pair a b)

-- the ends of the lines of a shape
abbrev pub form_ends : Shape Pos → List Pos
form_ends f = gathered ends_of (lines_in f)

-- the visits of a shape that are no ends
abbrev pub form_visits : Shape Pos → List Visit
form_visits f = gathered inner_of (lines_in f) ++ gathered around_of (rings_in f)

-- the ends of the lines of a feature
abbrev pub feature_ends : Feature → List Pos
feature_ends f = form_ends (form_of f.shape)

-- the visits of a feature that are no ends
abbrev pub feature_visits : Feature → List Visit
feature_visits f = form_visits (form_of f.shape)

-- the ends of the lines of the features of a layer
abbrev pub layer_ends : FeatureLayer → List Pos
layer_ends l = gathered feature_ends (set.items (set_of l.features))

-- the visits of the features of a layer that are no ends
abbrev pub layer_visits : FeatureLayer → List Visit
layer_visits l = gathered feature_visits (set.items (set_of l.features))
