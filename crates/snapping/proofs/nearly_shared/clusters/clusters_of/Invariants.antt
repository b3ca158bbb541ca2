use Rattle.std.specs.BTreeMap.{btree_map_len}
use Rattle.snapping.specs.NearlyShared.Joined.{positions_in}
use Rattle.snapping.proofs.NearlySharedLemmas.Clustering.{ClusteredSoFar}
use Rattle.snapping.proofs.nearly_shared.clusters.clusters_of.Given as goal

abbrev pub invariant-loop-first : goal.invariant-loop-first
invariant-loop-first l = ClusteredSoFar l.most (positions_in l.pairs) l.left l.moves l.wide.items

abbrev pub decreases-loop-first : goal.decreases-loop-first
decreases-loop-first l = btree_map_len l.left
