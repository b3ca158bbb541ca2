-- The features of a map, each fixed.
use Rattle.std.specs.Prelude.{◌≡◌, ℕ, ◌+◌, pos, List, [], ◌∷◌, ◌++◌, length, Some, Bool, true, false, map, max, ⊤}
use Rattle.decimal_maps.specs.Tally.{nothing_counted}
use Rattle.decimal_maps.specs.declared.feature.RawFeature.{RawFeature}
use Rattle.decimal_maps.specs.declared.tally.Tally.{Tally}
use Rattle.fixing.specs.Counts.{no_fixes, sum_of_counts}
use Rattle.fixing.specs.Forms.{plain_shape, seen_geometry}
use Rattle.fixing.specs.Geometries.{geometry_counted, geometry_left}
use Rattle.fixing.specs.declared.rules.FixingRules.{FixingRules}
use Rattle.shapes.specs.declared.shape.Id.{Id}
use Rattle.shapes.specs.declared.shape.Id.TheVariants.{None, Number, Text}
use Rattle.rounded_maps.specs.declared.map.RoundedFeature.{RoundedFeature}
use Rattle.rounded_maps.specs.declared.map.RoundedMap.{RoundedMap}

-- the id of the feature with the number n, which it is where there is no other and it is asked
abbrev pub numbered : Bool → ℕ → Id → Id
numbered true n None = Number (pos n)
numbered true n (Number z) = Number z
numbered true n (Text s) = Text s
numbered false n i = i

-- the shapes are those that are left of the raw geometry, id and properties are the raw feature's, and what is fixed is counted
pub record IsFixed (rules : FixingRules) (numbers : Bool) (n : ℕ) (raw : RawFeature) (f : RoundedFeature) : Type 0 where
  pub id : f.feature.id ≡ numbered numbers n raw.attributes.id
  pub props : f.feature.props ≡ raw.attributes.props
  pub left : geometry_left rules (seen_geometry raw.geometry) ≡ Some (map plain_shape f.feature.shapes.items)
  pub fixes : f.fixes ≡ geometry_counted rules (seen_geometry raw.geometry) no_fixes

-- each raw feature fixed, in order, the first of them with the number n
abbrev pub AreFixed : FixingRules → Bool → ℕ → List RawFeature → List RoundedFeature → Type 0
AreFixed rules numbers n [] [] = ⊤
AreFixed rules numbers n [] (f ∷ fs) = ⊥
AreFixed rules numbers n (raw ∷ raws) [] = ⊥
AreFixed rules numbers n (raw ∷ raws) (f ∷ fs) = IsFixed rules numbers n raw f × AreFixed rules numbers (n + 1) raws fs

-- what is counted of both
abbrev pub sum_of_tallies : Tally → Tally → Tally
sum_of_tallies a b = record {
  positions = sum_of_counts a.positions b.positions;
  heights = sum_of_counts a.heights b.heights;
  moved = sum_of_counts a.moved b.moved;
  furthest = max a.furthest b.furthest;
}

-- what is counted of all, behind what was counted before
abbrev pub tally_from : Tally → List RawFeature → Tally
tally_from t [] = t
tally_from t (raw ∷ raws) = tally_from (sum_of_tallies t raw.tally) raws

-- how many numbers became texts, behind those before
abbrev pub reals_from : ℕ → List RawFeature → ℕ
reals_from n [] = n
reals_from n (raw ∷ raws) = reals_from (sum_of_counts n raw.attributes.reals) raws

-- the map of the raw features, each fixed, with what is counted of it; features are numbered from 1
pub record IsFixedMap (rules : FixingRules) (numbers : Bool) (raws : List RawFeature) (m : RoundedMap) : Type 0 where
  pub features : AreFixed rules numbers 1 raws m.features.items
  pub tally : m.tally ≡ tally_from nothing_counted raws
  pub reals : m.reals ≡ reals_from 0 raws

-- a map with these raw features too, each fixed and numbered behind those before
pub record HasMore (rules : FixingRules) (numbers : Bool) (raws : List RawFeature) (old new : RoundedMap) : Type 0 where
  pub more : List RoundedFeature
  pub features : new.features.items ≡ old.features.items ++ more
  pub fixed : AreFixed rules numbers (length old.features.items + 1) raws more
  pub tally : new.tally ≡ tally_from old.tally raws
  pub reals : new.reals ≡ reals_from old.reals raws
