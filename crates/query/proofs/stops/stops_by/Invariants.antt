use Rattle.std.proofs.Common.{length}
use Rattle.lines.specs.ByVertex.{AreByVertex}
use Rattle.query.specs.Ends.{vertex_of}
use Rattle.query.proofs.Sides.{Judging}
use Rattle.query.proofs.stops.stops_by.Given as goal

abbrev pub invariant-loop-first : goal.invariant-loop-first
invariant-loop-first l = AreByVertex vertex_of l.fn.ends → Judging l.fn.ends l.left l.stops.items

abbrev pub decreases-loop-first : goal.decreases-loop-first
decreases-loop-first l = length l.left
