-- Two topologies by the same arcs.
use Rattle.std.specs.Prelude.{◌≡◌, ℕ, List, [], Option, Some, None, slice_get, map as map_list}
use Rattle.std.specs.Cmp.Lexicographic.{slice_cmp}
use Rattle.std.specs.FinMap as map
use Rattle.std.specs.List.Sorted.{IsStrictlySortedBy}
use Rattle.std.specs.Ordering.{nat_cmp}
use Rattle.grid.specs.declared.pos.Pos.{Pos}
use Rattle.lines.specs.Turned.{position_cmp}
use Rattle.shapes.specs.Maps.{Features, Layers}
use Rattle.shapes.specs.Parts.{spelled_text}
use Rattle.shapes.specs.Sets as set
use Rattle.shapes.specs.Union.{union}
use Rattle.shapes.specs.declared.feature.Feature.{Feature}
use Rattle.shapes.specs.declared.shape.Id.{Id}
use Rattle.chains.specs.Seen.{geometry_of}
use Rattle.theory.specs.Arcs.{AreArcsOf}
use Rattle.theory.specs.Geometry.{Geometry}
use Rattle.theory.specs.Lists.{Has, Pairwise}
use Rattle.topo.specs.Parts.{LayerParts}
use Rattle.topo.specs.declared.geom.Geom.{Geom}
use Rattle.topo.specs.LayerLaws.CutLaws.{IsListedFor}
use Rattle.compare.specs.Differences.{IsDifferenceBy}
use Rattle.compare.specs.Keyed.{feature_key}
use Rattle.compare.specs.declared.comparison.Comparison.{Comparison}
use Rattle.compare.specs.declared.difference.LayerDifference.{LayerDifference}
use Rattle.compare.specs.declared.pairs.LayerPair.{LayerPair}

-- the id of a feature
abbrev pub feature_id : Feature → Id
feature_id f = f.id

-- the bytes of a layer's name
abbrev pub name_of : LayerParts → List ℕ
name_of l = spelled_text l.name

-- each layer's name is below those after it
abbrev pub AreInOrder : List LayerParts → Type 0
AreInOrder ls = IsStrictlySortedBy (slice_cmp nat_cmp) (map_list name_of ls)

-- o is the number of the layer of the name, None where there is no such layer
abbrev pub IsNumberOf : List LayerParts → List ℕ → Option ℕ → Type 0
IsNumberOf ls q None = (l : LayerParts) → Has l ls → ¬ (name_of l ≡ q)
IsNumberOf ls q (Some k) = (l : LayerParts) × (slice_get ls k ≡ Some l) × (name_of l ≡ q)

-- the geometries of a layer; none where there is no layer
abbrev pub geometries_in : Option LayerParts → List Geom
geometries_in None = []
geometries_in (Some l) = l.geometries

-- the geometries of the layer of the number, none where there is none
abbrev pub geometries_from : List LayerParts → Option ℕ → List Geom
geometries_from ls None = []
geometries_from ls (Some k) = geometries_in (slice_get ls k)

-- the layer has the entry's name, and its geometries are those of the entry's features, by the arcs of g
pub record IsListedLayer (g : Geometry Pos) (arcs : List (List Pos)) (e : List ℕ × Features) (l : LayerParts) : Type 0 where
  pub name : e.0 ≡ spelled_text l.name
  pub items : Pairwise (IsListedFor g arcs) (set.items e.1) l.geometries

-- the arcs of both maps together, and the layers of both by these arcs
pub record IsComparisonOf (m n : Layers) (c : Comparison) : Type 0 where
  pub all : AreArcsOf position_cmp (geometry_of (union m n)) c.arcs.arcs
  pub old : Pairwise (IsListedLayer (geometry_of (union m n)) c.arcs.arcs) (map.entries m) c.old.items
  pub new : Pairwise (IsListedLayer (geometry_of (union m n)) c.arcs.arcs) (map.entries n) c.new.items

-- the pair has the layers of the name in the two lists, None for a list that has no such layer
pub record IsPairIn (olds news : List LayerParts) (q : List ℕ) (p : LayerPair) : Type 0 where
  pub old : IsNumberOf olds q p.old
  pub new : IsNumberOf news q p.new

-- the pair has the layers of the name
abbrev pub IsPairOf : Comparison → List ℕ → LayerPair → Type 0
IsPairOf c = IsPairIn c.old.items c.new.items

-- the features of the layers of a name pair by a property: none of those where it is missing or null
abbrev pub IsDifferenceByProperty : List ℕ → List Feature → List Feature → LayerDifference → Type 0
IsDifferenceByProperty property = IsDifferenceBy None (feature_key property)
