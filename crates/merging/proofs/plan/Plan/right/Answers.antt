use Rattle.std.proofs.Common.{arith, ◌≡◌, ◌-◌, ◌∙◌, ap₂}
use Rattle.std.specs.List.{range_with_len}
use Rattle.merging.proofs.GroupingLemmas.{right_leaves}
use Rattle.merging.proofs.plan.Plan.right.Goals as goal

pub returns-clause-leaves : goal.returns-clause-leaves
returns-clause-leaves c =
    let e : c.loop-index.index ≡ 0 = omega arith in
    let k : c.args.count - c.loop-index.index ≡ c.args.count = omega arith in
    right_leaves _ _ _ c.loop-index.invariant ∙ ap₂ range_with_len e k
