use Rattle.std.proofs.Common.{◌++◌, map}
use Rattle.reading.specs.Plain.{plain}
use Rattle.theory.specs.Lists.{gathered}
use Rattle.rounded_maps.specs.Built.{HaveSame, plain_features, plains_of}
use Rattle.rounded_maps.proofs.building.set_of.Given as goal

-- the features so far, with those of the others, are all
abbrev pub invariant-loop-feature : goal.invariant-loop-feature
invariant-loop-feature l = HaveSame (map plain l.features.items ++ gathered plains_of l.feature-iterator.rest.items) (plain_features l.fn.map)
