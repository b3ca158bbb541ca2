use Rattle.std.proofs.Common.{◌≡◌, ◌<◌, All, length, map}
use Rattle.grid.specs.Place.{Transform}
use Rattle.merging.specs.Plans.{union_all}
use Rattle.merging.proofs.joining.join_all.Given as goal

abbrev pub invariant-rounds : goal.invariant-rounds
invariant-rounds g l = record {
  some : 0 < length l.left.items;
  union : union_all (map g.S.Shard.map_of l.left.items) ≡ union_all (map g.S.Shard.map_of l.fn.shards.items);
  on_grid : (t : Transform) → All (λ s. g.S.Shard.grid_of s ≡ t) l.fn.shards.items → All (λ s. g.S.Shard.grid_of s ≡ t) l.left.items;
}

abbrev pub decreases-rounds : goal.decreases-rounds
decreases-rounds g l = length l.left.items
