use Rattle.std.proofs.Common.{◌≡◌, ◌++◌, map}
use Rattle.refine.proofs.remove.features_in_order.Given as goal

abbrev pub invariant-loop-feature : goal.invariant-loop-feature
invariant-loop-feature l = map (λ f. f.now) l.list.items ++ l.feature-iterator ≡ l.fn.features.keys
