use Rattle.std.proofs.Common.{◌≡◌, length}
use Rattle.topo.specs.Left.{walk_left}
use Rattle.topo.proofs.walk.WalkIterator.next.Given as goal

abbrev pub invariant-loop-first : goal.invariant-loop-first
invariant-loop-first l = walk_left l.self-inside ≡ l.fn.self

abbrev pub decreases-loop-first : goal.decreases-loop-first
decreases-loop-first l = length l.self-inside.middle.now
