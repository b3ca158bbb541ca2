-- Maps that are not joined, since what the moves collapse or fold is refused.
use Rattle.std.specs.Prelude.{◌≡◌, ◌⊎◌, ◌+◌, ◌<◌, ℕ, List, [], ◌∷◌, Option, Some, None, codes, get_or, map as map_list, true}
use Rattle.compare.specs.declared.quality.vertex.VertexUse.{VertexUse}
use Rattle.faults.specs.Fault.{IsWant, pair_of}
use Rattle.faults.specs.Path.{index, name}
use Rattle.faults.specs.declared.fault.Fault.{Fault}
use Rattle.faults.specs.declared.fault.FaultKind.{FaultKind}
use Rattle.faults.specs.declared.fault.FaultKind.TheVariants.{Revisit, TooShort}
use Rattle.fixing.specs.Forms.{RawShape, one}
use Rattle.fixing.specs.Geometries.{geometry_left}
use Rattle.fixing.specs.declared.rules.FixingRules.{FixingRules}
use Rattle.grid.specs.declared.pos.Pos.{Pos}
use Rattle.shapes.specs.Shapes.{Shape}
use Rattle.snapping.specs.NearlyShared.Joined.{AreClusters, target_in}
use Rattle.snapping.specs.NearlyShared.Moved.{Moves, moved_shape}
use Rattle.snapping.specs.declared.nearly_shared.clusters.Clusters.{Clusters}
use Rattle.theory.specs.Lists.{Has}
use Rattle.rounded_maps.specs.Files.{AreRounded, File}
use Rattle.rounded_maps.specs.Joined.{AreVertexUses}
use Rattle.rounded_maps.specs.declared.building.BuildRules.{BuildRules}
use Rattle.rounded_maps.specs.declared.building.MapsFault.{MapsFault}
use Rattle.rounded_maps.specs.declared.building.MapsFault.TheVariants.{Text, OutOfMemory}
use Rattle.rounded_maps.specs.declared.files.Origin.{Origin}
use Rattle.rounded_maps.specs.declared.joining.Unjoined.{Unjoined}
use Rattle.rounded_maps.specs.declared.joining.Unjoined.TheVariants as unjoined
use Rattle.rounded_maps.specs.declared.map.RoundedFeature.{RoundedFeature}
use Rattle.rounded_maps.specs.declared.map.RoundedMap.{RoundedMap}

-- by what is left where what is folded is split: something, or nothing
abbrev pub kind_left : Option (List RawShape) → FaultKind
kind_left None = TooShort
kind_left (Some left) = Revisit

-- the fault of a shape that the rules refuse where its positions go
abbrev pub kind_moved : FixingRules → (Pos → Pos) → Shape → FaultKind
kind_moved rules f s = kind_left (geometry_left (record rules { splits_folded = true }) (one (moved_shape f s)))

-- a position of the shape is moved, and the rules refuse it then
pub record IsRefusedShape (rules : FixingRules) (f : Pos → Pos) (s : Shape) (kind : FaultKind) : Type 0 where
  pub moves : Moves f s
  pub refused : geometry_left rules (one (moved_shape f s)) ≡ None
  pub is : kind ≡ kind_moved rules f s

-- one of the shapes is refused
pub record HasRefusedShape (rules : FixingRules) (f : Pos → Pos) (ss : List Shape) (kind : FaultKind) : Type 0 where
  pub shape : Shape
  pub there : Has shape ss
  pub refused : IsRefusedShape rules f shape kind

-- the fault of the feature with the number n, which has a shape that is refused
pub record IsRefusedFeature (rules : FixingRules) (f : Pos → Pos) (n : ℕ) (feature : RoundedFeature) (fault : Fault) : Type 0 where
  pub kind : FaultKind
  pub refused : HasRefusedShape rules f feature.feature.shapes.items kind
  pub is : pair_of fault ≡ record { path = name (codes "features") ∷ index n ∷ []; kind = kind }

-- what is refused has a fault of such a kind
abbrev pub RefusesFor : (FaultKind → Type 0) → Unjoined → Type 0
RefusesFor P (unjoined.Refused kind) = P kind
RefusesFor P unjoined.OutOfMemory = Unit {0}

-- the fault is that of a feature with a shape that is refused, at the feature, of those that are numbered from n
abbrev pub HasRefusedFeature : FixingRules → (Pos → Pos) → ℕ → List RoundedFeature → Fault → Type 0
HasRefusedFeature rules f n [] fault = ⊥
HasRefusedFeature rules f n (r ∷ rs) fault = IsRefusedFeature rules f n r fault ⊎ HasRefusedFeature rules f (n + 1) rs fault

-- memory was refused, or a feature
abbrev pub IsUnjoined : FixingRules → (Pos → Pos) → ℕ → List RoundedFeature → Fault → Type 0
IsUnjoined rules f n fs fault = IsWant fault ⊎ HasRefusedFeature rules f n fs fault

-- the map at the place, of those that are numbered from n, has a feature that is refused
abbrev pub HasUnjoinedMap : FixingRules → (Pos → Pos) → ℕ → List RoundedMap → ℕ → Fault → Type 0
HasUnjoinedMap rules f n [] place fault = ⊥
HasUnjoinedMap rules f n (m ∷ ms) place fault = ((place ≡ n) × HasRefusedFeature rules f 0 m.features.items fault) ⊎ HasUnjoinedMap rules f (n + 1) ms place fault

-- the fault is that of a feature that the moves collapse or fold, in the map of that place; or memory was refused
abbrev pub AreUnjoined : FixingRules → (Pos → Pos) → ℕ → List RoundedMap → MapsFault → Type 0
AreUnjoined rules f n maps (Text place fault) = HasUnjoinedMap rules f n maps place fault
AreUnjoined rules f n maps OutOfMemory = Unit {0}

-- the place of the file that the map of that number is from
abbrev pub file_at : List Origin → ℕ → ℕ
file_at origins n = get_or (map_list (λ o. o.text) origins) n n

-- the refusal of a map as that of its file
abbrev pub of_file : List Origin → MapsFault → MapsFault
of_file origins (Text n fault) = Text (file_at origins n) fault
of_file origins OutOfMemory = OutOfMemory

-- all files are maps, and one of these is refused where nearly shared vertices are joined
pub record AreUnjoinedTexts (rules : BuildRules) (files : List File) (fault : MapsFault) : Type 0 where
  pub read : List RoundedMap
  pub origins : List Origin
  pub rounded : AreRounded rules.rounding 0 files read origins
  pub asked : 0 < rules.join_distance
  pub uses : List VertexUse
  pub of : AreVertexUses read uses
  pub clusters : Clusters
  pub are : AreClusters uses rules.join_distance clusters
  pub of_map : MapsFault
  pub refused : AreUnjoined rules.rounding.fixing (target_in clusters) 0 read of_map
  pub is : fault ≡ of_file origins of_map
