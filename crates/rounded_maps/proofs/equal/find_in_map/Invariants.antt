use Rattle.std.proofs.Common.{ℕ, List, [], drop}
use Rattle.std.specs.BTreeSet.{BTreeSet}
use Rattle.rounded_maps.specs.Equal.{FindsRepeats, features_from}
use Rattle.rounded_maps.specs.declared.equal.LayerFeature.{LayerFeature}
use Rattle.rounded_maps.proofs.equal.find_in_map.Given as goal

-- what the other features bring, with those so far, is what all bring
abbrev pub invariant-loop-number : goal.invariant-loop-number
invariant-loop-number l = (after : BTreeSet LayerFeature) (new : List ℕ)
    → FindsRepeats (features_from l.fn.layer l.number (drop l.number l.fn.map.features.items)) l.seen after l.features.items new
    → FindsRepeats (features_from l.fn.layer 0 l.fn.map.features.items) l.fn.seen after [] new
