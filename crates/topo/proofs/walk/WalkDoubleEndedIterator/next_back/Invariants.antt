use Rattle.std.proofs.Common.{◌≡◌, length}
use Rattle.topo.specs.Left.{walk_left}
use Rattle.topo.proofs.walk.WalkDoubleEndedIterator.next_back.Given as goal

abbrev pub invariant-loop-last : goal.invariant-loop-last
invariant-loop-last l = walk_left l.self-inside ≡ l.fn.self

abbrev pub decreases-loop-last : goal.decreases-loop-last
decreases-loop-last l = length l.self-inside.middle.now
