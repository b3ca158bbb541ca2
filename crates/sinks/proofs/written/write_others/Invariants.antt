use Rattle.std.proofs.Common.{length}
use Rattle.sinks.specs.Writes.{TookUpTo}
use Rattle.sinks.specs.Texts.{after_commas}
use Rattle.sinks.proofs.written.write_others.Given as goal

abbrev pub invariant-loop-value : goal.invariant-loop-value
invariant-loop-value g l = TookUpTo (g.W.Sink.seen l.initial.sink) (g.W.Sink.seen l.sink) (after_commas (g.N.Notation.text l.notation) l.others) (after_commas (g.N.Notation.text l.notation) l.left)

abbrev pub decreases-loop-value : goal.decreases-loop-value
decreases-loop-value g l = length l.left
