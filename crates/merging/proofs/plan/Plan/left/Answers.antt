use Rattle.std.proofs.Common.{arith, ◌≡◌, subst}
use Rattle.merging.specs.Groupings.{IsLeft}
use Rattle.merging.proofs.GroupingLemmas.{left_leaves}
use Rattle.merging.proofs.plan.Plan.left.Goals as goal

pub returns-clause-leaves : goal.returns-clause-leaves
returns-clause-leaves c = let e : c.loop-index.index ≡ c.args.count = omega arith in left_leaves _ _ (subst (IsLeft c.loop-index.plan) e c.loop-index.invariant)
