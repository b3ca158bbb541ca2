use Rattle.std.proofs.Common.{◌≤◌}
use Rattle.std.specs.BTreeMap.{btree_map_len}
use Rattle.chains.specs.Walk.{HasCome}
use Rattle.chains.proofs.joining.walk.Given as goal

abbrev pub invariant-loop-first : goal.invariant-loop-first
invariant-loop-first l = record {
  come : HasCome l.fn.links l.fn.from l.fn.to l.chain.items l.links l.before l.here;
  len : btree_map_len l.links ≤ btree_map_len l.fn.links;
}

abbrev pub decreases-loop-first : goal.decreases-loop-first
decreases-loop-first l = btree_map_len l.links
