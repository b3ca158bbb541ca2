use Rattle.std.proofs.Common.{◌≡◌, length, map}
use Rattle.std.specs.Vec.Iter.{into_iter_items, into_iter_len}
use Rattle.merging.proofs.KeptTexts.{KeptSoFar}
use Rattle.merging.proofs.merge.read_marked.Given as goal

abbrev pub invariant-loop-text : goal.invariant-loop-text
invariant-loop-text g l = record {
  long : into_iter_len l.left ≡ length (into_iter_items l.left);
  kept : KeptSoFar g.S.Shard.grid_of g.S.Shard.map_of (map g.T.AsSlice.items l.fn.texts.items) (map g.T.AsSlice.items (into_iter_items l.left)) l.marks l.number l.grids.items l.shards.items;
}

abbrev pub decreases-loop-text : goal.decreases-loop-text
decreases-loop-text g l = into_iter_len l.left
