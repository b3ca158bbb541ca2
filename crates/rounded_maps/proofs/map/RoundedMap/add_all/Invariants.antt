use Rattle.std.proofs.Common.{◌≡◌, ◌+◌, ◌++◌, List, length}
use Rattle.rounded_maps.specs.Fixed.{AreFixed, reals_from, tally_from}
use Rattle.rounded_maps.specs.declared.map.RoundedFeature.{RoundedFeature}
use Rattle.rounded_maps.proofs.map.RoundedMap.add_all.Given as goal

-- what was fixed so far, with the others fixed, is all fixed
abbrev pub invariant-loop-feature : goal.invariant-loop-feature
invariant-loop-feature l = record {
  done : List RoundedFeature;
  are : l.self.features.items ≡ l.fn.self.features.items ++ done;
  features : (more : List RoundedFeature) → AreFixed l.rules l.numbers (length l.self.features.items + 1) l.feature-iterator.rest.items more
      → AreFixed l.rules l.numbers (length l.fn.self.features.items + 1) l.fn.features.items (done ++ more);
  tally : tally_from l.self.tally l.feature-iterator.rest.items ≡ tally_from l.fn.self.tally l.fn.features.items;
  reals : reals_from l.self.reals l.feature-iterator.rest.items ≡ reals_from l.fn.self.reals l.fn.features.items;
}
