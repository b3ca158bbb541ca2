-- Maps whose nearly shared vertices are joined.
use Rattle.std.specs.Prelude.{◌≡◌, ◌⊎◌, ◌<◌, ℕ, List, [], ◌∷◌, ◌++◌, Option, Some, None, Bool, true, false, map, ⊤}
use Rattle.std.specs.List.Sorted.{IsPermutation}
use Rattle.compare.specs.declared.quality.vertex.VertexUse.{VertexUse}
use Rattle.fixing.specs.Counts.{no_fixes, sum_of_fixes}
use Rattle.fixing.specs.Forms.{one, plain_shape}
use Rattle.fixing.specs.Geometries.{geometry_counted, geometry_left}
use Rattle.fixing.specs.declared.rules.Fixes.{Fixes}
use Rattle.fixing.specs.declared.rules.FixingRules.{FixingRules}
use Rattle.grid.specs.declared.pos.Pos.{Pos}
use Rattle.shapes.specs.Shapes.{Shape}
use Rattle.snapping.specs.NearlyShared.Joined.{AreClusters, target_in}
use Rattle.snapping.specs.NearlyShared.Moved.{Moves, moved_shape}
use Rattle.snapping.specs.NearlyShared.Shared.{AreCounts}
use Rattle.snapping.specs.NearlyShared.Uses.{shapes_uses}
use Rattle.snapping.specs.declared.nearly_shared.clusters.Clusters.{Clusters}
use Rattle.snapping.specs.declared.nearly_shared.counts.VertexCounts.{VertexCounts}
use Rattle.theory.specs.Lists.{gathered}
use Rattle.rounded_maps.specs.declared.map.RoundedFeature.{RoundedFeature}
use Rattle.rounded_maps.specs.declared.map.RoundedMap.{RoundedMap}

-- a shape of which a position is moved: what the rules leave of it where the positions go, with what is fixed counted
pub record IsMovedShape (rules : FixingRules) (f : Pos → Pos) (s : Shape) (left : List Shape) (before after : Fixes) : Type 0 where
  pub moves : Moves f s
  pub are : geometry_left rules (one (moved_shape f s)) ≡ Some (map plain_shape left)
  pub fixes : after ≡ geometry_counted rules (one (moved_shape f s)) before

-- any other shape stays as it is
pub record IsKeptShape (f : Pos → Pos) (s : Shape) (left : List Shape) (before after : Fixes) : Type 0 where
  pub stays : ¬ Moves f s
  pub same : left ≡ s ∷ []
  pub fixes : after ≡ before

-- what becomes of a shape where positions move: it is fixed again if one of its own does, and else stays
abbrev pub IsJoinedShape : FixingRules → (Pos → Pos) → Shape → List Shape → Fixes → Fixes → Type 0
IsJoinedShape rules f s left before after = IsMovedShape rules f s left before after ⊎ IsKeptShape f s left before after

-- each of the shapes joined, in order
abbrev pub AreJoinedShapes : FixingRules → (Pos → Pos) → List Shape → List Shape → Fixes → Fixes → Type 0
AreJoinedShapes rules f [] left before after = (left ≡ []) × (after ≡ before)
AreJoinedShapes rules f (s ∷ ss) left before after =
    (first : List Shape) × ((rest : List Shape) × ((between : Fixes) × ((left ≡ first ++ rest) × IsJoinedShape rules f s first before between × AreJoinedShapes rules f ss rest between after)))

-- a feature of which the shapes are joined, with what is fixed then counted too
pub record IsJoined (rules : FixingRules) (f : Pos → Pos) (old new : RoundedFeature) : Type 0 where
  pub id : new.feature.id ≡ old.feature.id
  pub props : new.feature.props ≡ old.feature.props
  pub again : Fixes
  pub shapes : AreJoinedShapes rules f old.feature.shapes.items new.feature.shapes.items no_fixes again
  pub fixes : new.fixes ≡ sum_of_fixes old.fixes again

-- each feature joined, in order
abbrev pub AreJoined : FixingRules → (Pos → Pos) → List RoundedFeature → List RoundedFeature → Type 0
AreJoined rules f [] [] = ⊤
AreJoined rules f [] (new ∷ news) = ⊥
AreJoined rules f (old ∷ olds) [] = ⊥
AreJoined rules f (old ∷ olds) (new ∷ news) = IsJoined rules f old new × AreJoined rules f olds news

-- a map of which the features are joined; what was counted where it was read stays
pub record IsJoinedMap (rules : FixingRules) (f : Pos → Pos) (old new : RoundedMap) : Type 0 where
  pub features : AreJoined rules f old.features.items new.features.items
  pub tally : new.tally ≡ old.tally
  pub reals : new.reals ≡ old.reals

-- each map with its positions moved
abbrev pub AreJoinedMaps : FixingRules → (Pos → Pos) → List RoundedMap → List RoundedMap → Type 0
AreJoinedMaps rules f [] [] = ⊤
AreJoinedMaps rules f [] (new ∷ news) = ⊥
AreJoinedMaps rules f (old ∷ olds) [] = ⊥
AreJoinedMaps rules f (old ∷ olds) (new ∷ news) = IsJoinedMap rules f old new × AreJoinedMaps rules f olds news

-- the shapes of a feature, each of which is a feature of its own
abbrev pub feature_shapes : RoundedFeature → List Shape
feature_shapes f = f.feature.shapes.items

-- and those of a map
abbrev pub shapes_in : RoundedMap → List Shape
shapes_in m = gathered feature_shapes m.features.items

-- the vertices of all maps, in their order
pub record AreVertexUses (maps : List RoundedMap) (uses : List VertexUse) : Type 0 where
  pub of : IsPermutation (shapes_uses 0 (gathered shapes_in maps)) uses

-- the vertices are joined that are nearly shared and at most n steps apart; for 0 none is
abbrev pub AreJoinedWithin : FixingRules → ℕ → Option Clusters → List RoundedMap → List RoundedMap → Type 0
AreJoinedWithin rules n None olds news = (n ≡ 0) × (news ≡ olds)
AreJoinedWithin rules n (Some clusters) olds news =
    (0 < n) × ((uses : List VertexUse) × (AreVertexUses olds uses × AreClusters uses n clusters × AreJoinedMaps rules (target_in clusters) olds news))

-- how many vertices of all maps are shared, and nearly shared at one step
pub record AreCountsOf (maps : List RoundedMap) (counts : VertexCounts) : Type 0 where
  pub uses : List VertexUse
  pub of : AreVertexUses maps uses
  pub are : AreCounts uses 1 counts

-- they are counted where that is asked
abbrev pub AreCountsIf : Bool → List RoundedMap → Option VertexCounts → Type 0
AreCountsIf asked maps None = asked ≡ false
AreCountsIf asked maps (Some counts) = (asked ≡ true) × AreCountsOf maps counts
