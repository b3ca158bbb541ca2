use Rattle.std.proofs.Common.{◌≡◌, ◌+◌, ◌≤◌, ◌++◌}
use Rattle.std.specs.List.{flat_map, sum_by}
use Rattle.std.specs.Option.{option_or}
use Rattle.merging.specs.Leaves.{leaves, first_outside}
use Rattle.merging.proofs.PlanSizes.{size}
use Rattle.merging.proofs.plan.+first_bad_leaf.Given as goal

abbrev pub invariant-loop-rest : goal.invariant-loop-rest
invariant-loop-rest l =
    (option_or (first_outside l.count (flat_map (λ p. leaves p.now) l.waiting.items ++ leaves l.rest)) l.found ≡ first_outside l.count (leaves l.plan))
    × (sum_by (λ p. size p.now) l.waiting.items + size l.rest ≤ size l.plan)

abbrev pub decreases-loop-rest : goal.decreases-loop-rest
decreases-loop-rest l = sum_by (λ p. size p.now) l.waiting.items + size l.rest

abbrev pub decreases-first_bad_leaf : goal.decreases-first_bad_leaf
decreases-first_bad_leaf l = size l.plan.now
