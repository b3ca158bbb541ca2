use Rattle.std.proofs.Common.{length}
use Rattle.sinks.specs.Writes.{TookUpTo}
use Rattle.arcs.specs.ArcTexts.{differences_text}
use Rattle.arcs.proofs.writing.write_differences.Given as goal

abbrev pub invariant-loop-p : goal.invariant-loop-p
invariant-loop-p g l = TookUpTo (g.W.Sink.seen l.initial.sink) (g.W.Sink.seen l.sink) (differences_text l.fn.first l.others) (differences_text l.before l.left)

abbrev pub decreases-loop-p : goal.decreases-loop-p
decreases-loop-p g l = length l.left
