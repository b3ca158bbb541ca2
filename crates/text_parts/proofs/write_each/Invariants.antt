use Rattle.std.proofs.Common.{length}
use Rattle.sinks.specs.Writes.{TookUpTo}
use Rattle.text_parts.specs.TextParts.{each_text}
use Rattle.text_parts.proofs.write_each.Given as goal

abbrev pub invariant-loop-value : goal.invariant-loop-value
invariant-loop-value g l = TookUpTo (g.W.Sink.seen l.initial.sink) (g.W.Sink.seen l.sink) (each_text (g.N.Notation.text l.notation) l.values) (each_text (g.N.Notation.text l.notation) l.left)

abbrev pub decreases-loop-value : goal.decreases-loop-value
decreases-loop-value g l = length l.left
