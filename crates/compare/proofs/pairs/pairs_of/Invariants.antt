use Rattle.std.proofs.Common.{length, ◌+◌, ◌-◌, ◌≤◌}
use Rattle.compare.proofs.Pairings.{AreFirst}
use Rattle.compare.proofs.pairs.pairs_of.Given as goal

abbrev pub invariant-loop-order : goal.invariant-loop-order
invariant-loop-order l = record {
  old : l.old ≤ length l.fn.olds;
  new : l.new ≤ length l.fn.news;
  first : AreFirst l.fn.olds l.fn.news l.old l.new l.pairs.items;
}

abbrev pub decreases-loop-order : goal.decreases-loop-order
decreases-loop-order l = (length l.fn.olds - l.old) + (length l.fn.news - l.new)
