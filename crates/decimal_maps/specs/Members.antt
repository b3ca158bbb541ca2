-- What is known of the members of objects while they are read.
use Rattle.std.specs.Prelude.{◌≡◌, ℕ, List, Option, Some, None, Vec, codes, ⊤}
use Rattle.std.specs.declared.alloc.Global.{Global}
use Rattle.json.specs.Json.{Json, string, array, no_items, Members}
use Rattle.json.specs.Find.{get_member}
use Rattle.json.specs.Value.{value_view}
use Rattle.json.specs.declared.value.Value.{Value}
use Rattle.fixing.specs.declared.raw.RawGeometry.{RawGeometry}
use Rattle.fixing.specs.Forms.{RawShape}
use Rattle.decimal_maps.specs.Arrays.{ArrayMeans}
use Rattle.decimal_maps.specs.Geometries.{AreGroups, AreLists, ArePositions, IsGeometryOrNull, IsShape, IsSimple, kind_name, kind_of}
use Rattle.decimal_maps.specs.Positions.{IsPosition}
use Rattle.decimal_maps.specs.Roots.{AreFeatures}
use Rattle.decimal_maps.specs.Tally.{nothing_counted}
use Rattle.decimal_maps.specs.declared.coordinates.Coordinates.{Coordinates}
use Rattle.decimal_maps.specs.declared.coordinates.Coordinates.TheVariants.{Empty, Place, Places, Lists, Groups}
use Rattle.decimal_maps.specs.declared.feature.FeatureMembers.{FeatureMembers}
use Rattle.decimal_maps.specs.declared.feature.FeatureParts.{FeatureParts}
use Rattle.decimal_maps.specs.declared.geometry.GeometryMembers.{GeometryMembers}
use Rattle.reading.specs.declared.geometry.GeometryType.{GeometryType}
use Rattle.decimal_maps.specs.declared.kind.Kind.{Kind}
use Rattle.decimal_maps.specs.declared.kind.Kind.TheVariants as kind
use Rattle.decimal_maps.specs.declared.object.Lookup.{Lookup}
use Rattle.decimal_maps.specs.declared.object.Lookup.TheVariants.{Missing, Skipped, Read}
use Rattle.decimal_maps.specs.declared.root.RootMembers.{RootMembers}
use Rattle.decimal_maps.specs.declared.rules.DecimalGrid.{DecimalGrid}
use Rattle.decimal_maps.specs.declared.rules.MapRules.{MapRules}
use Rattle.decimal_maps.specs.declared.simple.GeometryStart.{GeometryStart}
use Rattle.decimal_maps.specs.declared.simple.SimpleMembers.{SimpleMembers}
use Rattle.decimal_maps.specs.declared.tally.Tally.{Tally}

-- what was read of a value
abbrev pub LookupMeans : {X : Type 0} → (Json → X → Type 0) → Json → Lookup X → Type 0
LookupMeans means j Missing = ⊥
LookupMeans means j Skipped = ⊤
LookupMeans means j (Read x) = means j x

-- what is known of the last member of a name
abbrev pub KnowsMember : {X : Type 0} → List ℕ → (Json → X → Type 0) → Lookup X → Members → Type 0
KnowsMember name means Missing ms = get_member name ms ≡ None
KnowsMember name means Skipped ms = ⊤
KnowsMember name means (Read x) ms = (j : Json) × (get_member name ms ≡ Some j) × means j x

-- the name of a type [RFC 7946, 1.4]
abbrev pub type_name : Kind → List ℕ
type_name kind.FeatureCollection = codes "FeatureCollection"
type_name kind.Feature = codes "Feature"
type_name kind.GeometryCollection = codes "GeometryCollection"
type_name (kind.Simple k) = kind_name k

-- a text that names the type
abbrev pub IsKind : Json → Kind → Type 0
IsKind j k = j ≡ string (type_name k)

-- ---- geometries

-- what coordinates mean by how deep they nest
abbrev pub CoordinatesMean : DecimalGrid → Json → Coordinates → Tally → Tally → Type 0
CoordinatesMean grid j Empty a b = (j ≡ array no_items) × (b ≡ a)
CoordinatesMean grid j (Place p) a b = IsPosition grid j p a b
CoordinatesMean grid j (Places ps) a b = ArePositions grid j ps a b
CoordinatesMean grid j (Lists ls) a b = AreLists grid j ls a b
CoordinatesMean grid j (Groups gs) a b = AreGroups grid j gs a b

-- the shape that coordinates are in a geometry of that type
abbrev pub IsShapeOf : GeometryType → Coordinates → RawShape → Type 0
IsShapeOf k n s = (kind_of s ≡ k) × ((grid : DecimalGrid) (j : Json) (a b : Tally) → CoordinatesMean grid j n a b → IsShape grid j s a b)

-- coordinates, and what is counted behind them
abbrev pub AreCounted : GeometryStart → Json → Coordinates × Tally → Type 0
AreCounted on j n = CoordinatesMean on.grid j n.0 on.counted n.1

-- geometries that are no collections, and what is counted behind them
abbrev pub AreSimple : GeometryStart → Json → Vec RawShape Global × Tally → Type 0
AreSimple on j n = ArrayMeans (IsSimple on.grid) j n.0.items on.counted n.1

-- what is known of a geometry that is no collection
abbrev pub KnowsSimple : GeometryStart → SimpleMembers → Members → Type 0
KnowsSimple on m ms = KnowsMember (codes "type") IsKind m.kind ms × KnowsMember (codes "coordinates") (AreCounted on) m.coordinates ms

-- what is known of any geometry
abbrev pub KnowsGeometry : GeometryStart → GeometryMembers → Members → Type 0
KnowsGeometry on m ms = KnowsSimple on m.simple ms × KnowsMember (codes "geometries") (AreSimple on) m.geometries ms

-- ---- features and roots

-- a geometry or null, and what is counted of it
abbrev pub IsCountedGeometry : DecimalGrid → Json → RawGeometry × Tally → Type 0
IsCountedGeometry grid j g = IsGeometryOrNull grid j g.0 nothing_counted g.1

-- the value as it is
abbrev pub IsValue : Json → Value Global → Type 0
IsValue j v = j ≡ value_view v

-- what is known of a feature's members other than its type
abbrev pub KnowsParts : DecimalGrid → FeatureParts → Members → Type 0
KnowsParts grid m ms =
    KnowsMember (codes "geometry") (IsCountedGeometry grid) m.geometry ms
    × KnowsMember (codes "id") IsValue m.id ms
    × KnowsMember (codes "properties") IsValue m.properties ms

-- what is known of a feature
abbrev pub KnowsFeature : DecimalGrid → FeatureMembers → Members → Type 0
KnowsFeature grid m ms = KnowsMember (codes "type") IsKind m.kind ms × KnowsParts grid m.parts ms

-- what the geometry of a root is read by
abbrev pub root_start : MapRules → GeometryStart
root_start rules = record { grid = rules.grid; counted = nothing_counted }

-- what is known of a root
abbrev pub KnowsRoot : MapRules → RootMembers → Members → Type 0
KnowsRoot rules m ms =
    KnowsGeometry (root_start rules) m.geometry ms
    × KnowsMember (codes "features") (λ j fs. AreFeatures rules j fs.items) m.features ms
    × KnowsParts rules.grid m.parts ms

-- what was read, where it was not skipped
abbrev pub lookup_of : {X : Type 0} → Option X → Lookup X
lookup_of None = Missing
lookup_of (Some x) = Read x
