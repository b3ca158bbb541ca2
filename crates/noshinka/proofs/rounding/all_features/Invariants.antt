-- The features so far, with those of the other maps, are all.
use Rattle.std.proofs.Common.{◌≡◌, ◌++◌}
use Rattle.noshinka.specs.Rounding.{features_in}
use Rattle.noshinka.proofs.rounding.all_features.Given as goal

abbrev pub invariant-loop-map : goal.invariant-loop-map
invariant-loop-map l = l.features.items ++ features_in l.map-iterator.rest.items ≡ features_in l.fn.maps.items
