use Rattle.std.proofs.Common.{◌++◌, List, drop}
use Rattle.rounded_maps.specs.Outcomes.{AreOutcomes}
use Rattle.rounded_maps.specs.declared.outcome.Outcome.{Outcome}
use Rattle.rounded_maps.proofs.building.outcomes_of.Given as goal

-- the outcomes so far, with those of the other maps, are those of all
abbrev pub invariant-loop-map : goal.invariant-loop-map
invariant-loop-map l = (more : List Outcome) → AreOutcomes (drop l.map-index l.maps) more → AreOutcomes l.maps (l.outcomes.items ++ more)
