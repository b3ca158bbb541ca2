use Rattle.std.proofs.Common.{◌≡◌, length}
use Rattle.std.specs.Vec.Iter.{into_iter_items, into_iter_len}
use Rattle.merging.proofs.JoiningLemmas.{Paired}
use Rattle.merging.proofs.joining.join_pairs.Given as goal

abbrev pub invariant-loop-first : goal.invariant-loop-first
invariant-loop-first g l = record {
  long : into_iter_len l.left ≡ length (into_iter_items l.left);
  paired : Paired g.S.Shard.grid_of g.S.Shard.map_of l.fn.shards.items l.joined.items (into_iter_items l.left);
}

abbrev pub decreases-loop-first : goal.decreases-loop-first
decreases-loop-first g l = into_iter_len l.left
