use Rattle.std.proofs.Common.{ℕ, List, drop}
use Rattle.std.specs.BTreeSet.{BTreeSet}
use Rattle.rounded_maps.specs.Equal.{FindsRepeats, features_of}
use Rattle.rounded_maps.specs.declared.equal.LayerFeature.{LayerFeature}
use Rattle.rounded_maps.proofs.Repeats.{features_with}
use Rattle.rounded_maps.proofs.equal.find_in_feature.Given as goal

-- what the other shapes bring, with those so far, is what all bring
abbrev pub invariant-loop-shape : goal.invariant-loop-shape
invariant-loop-shape l = (after : BTreeSet LayerFeature) (new : List ℕ)
    → FindsRepeats (features_with l.fn.layer l.fn.number l.fn.feature (drop l.shape-index l.fn.feature.feature.shapes.items)) l.seen after l.equal.items new
    → FindsRepeats (features_of l.fn.layer l.fn.number l.fn.feature) l.fn.seen after l.fn.equal.items new
