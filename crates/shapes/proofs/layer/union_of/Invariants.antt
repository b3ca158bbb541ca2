use Rattle.std.proofs.Common.{◌≡◌, ◌++◌}
use Rattle.std.specs.BTreeSet.{union}
use Rattle.shapes.specs.Order.{feature_cmp}
use Rattle.shapes.proofs.layer.union_of.Given as goal

abbrev pub invariant-loop-feature : goal.invariant-loop-feature
invariant-loop-feature l = (l.copies.items ++ l.feature-iterator) ≡ union feature_cmp l.these l.those
