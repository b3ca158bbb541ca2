use Rattle.std.proofs.Common.{◌≡◌, All, map}
use Rattle.std.specs.Prelude.{reverse}
use Rattle.std.specs.List.{sum_by}
use Rattle.merging.specs.Leaves.{leaves}
use Rattle.merging.specs.Plans.{union_at}
use Rattle.merging.proofs.RunLemmas.{Gives, task_size}
use Rattle.merging.proofs.plan.running.join_leaves.Given as goal

abbrev pub invariant-loop-task : goal.invariant-loop-task
invariant-loop-task g l = record {
  left : Gives g.S.Shard.map_of l.shards (reverse l.tasks.items) (reverse l.made.items) (union_at (map g.S.Shard.map_of l.shards) (leaves l.plan));
  one_grid : All (λ s. g.S.Shard.grid_of s ≡ l.fn.grid) l.made.items;
}

abbrev pub decreases-loop-task : goal.decreases-loop-task
decreases-loop-task g l = sum_by task_size l.tasks.items
