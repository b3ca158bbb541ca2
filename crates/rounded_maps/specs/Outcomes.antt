-- What became of maps.
use Rattle.std.specs.Prelude.{◌≡◌, List, [], ◌∷◌, map, vec_len, ⊤}
use Rattle.fixing.specs.Counts.{AreCounted}
use Rattle.rounded_maps.specs.declared.map.RoundedMap.{RoundedMap}
use Rattle.rounded_maps.specs.declared.outcome.Outcome.{Outcome}

-- how many features the map has, what was counted of them, and what was fixed of each
pub record IsOutcome (m : RoundedMap) (o : Outcome) : Type 0 where
  pub features : o.features ≡ vec_len m.features
  pub tally : o.tally ≡ m.tally
  pub reals : o.reals ≡ m.reals
  pub fixes : AreCounted o.fixes o.fixed.items (map (λ f. f.fixes) m.features.items)

-- what became of each map, in order
abbrev pub AreOutcomes : List RoundedMap → List Outcome → Type 0
AreOutcomes [] [] = ⊤
AreOutcomes [] (o ∷ os) = ⊥
AreOutcomes (m ∷ ms) [] = ⊥
AreOutcomes (m ∷ ms) (o ∷ os) = IsOutcome m o × AreOutcomes ms os
