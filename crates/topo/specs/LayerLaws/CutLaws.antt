-- The law by which a join compares lists of arcs before it stitches.
use Rattle.std.specs.Prelude.{◌≡◌, ◌↔◌, List}
use Rattle.grid.specs.declared.pos.Pos.{Pos}
use Rattle.lines.specs.Turned.{position_cmp}
use Rattle.shapes.specs.declared.feature.Feature.{Feature}
use Rattle.chains.specs.Seen as seen_by
use Rattle.theory.specs.Arcs.{AreArcsOf}
use Rattle.theory.specs.Geometry.{Geometry, IsSound, JunctionOf}
use Rattle.theory.specs.Topology.{IsGeometryOf}
use Rattle.topo.specs.OfMap.{item_of}
use Rattle.topo.specs.declared.geom.Geom.{Geom}

-- the geometry is that of the feature, by the arcs of the map g
abbrev pub IsListedFor : Geometry Pos → List (List Pos) → Feature → Geom → Type 0
IsListedFor g arcs f a = IsGeometryOf position_cmp (JunctionOf g) arcs (seen_by.item_of f) (item_of a)

-- the same id and properties, and the same lists of arcs
abbrev pub SameLists : Geom → Geom → Type 0
SameLists a b = (a.id ≡ b.id) × (a.props ≡ b.props) × (a.body ≡ b.body)

-- by the arcs of one map, features are equal exactly where the ids, the properties and the lists of their geometries are
abbrev pub EqualFeaturesEqualLists : Type 0
EqualFeaturesEqualLists =
    (g : Geometry Pos) → IsSound g → (arcs : List (List Pos)) → AreArcsOf position_cmp g arcs → (f h : Feature) (a b : Geom) →
    IsListedFor g arcs f a → IsListedFor g arcs h b → (f ≡ h) ↔ SameLists a b
