use Rattle.std.proofs.Common.{length}
use Rattle.sinks.specs.Writes.{TookUpTo}
use Rattle.query.specs.Sequences.{lines_by_arcs}
use Rattle.query.proofs.layer_text.sequence.write_layers.Given as goal

abbrev pub invariant-loop-layer : goal.invariant-loop-layer
invariant-loop-layer g l =
    TookUpTo (g.W.Sink.seen l.initial.sink) (g.W.Sink.seen l.sink) (lines_by_arcs l.topology l.layers) (lines_by_arcs l.topology l.left)

abbrev pub decreases-loop-layer : goal.decreases-loop-layer
decreases-loop-layer g l = length l.left
