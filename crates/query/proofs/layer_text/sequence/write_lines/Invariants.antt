use Rattle.std.proofs.Common.{length}
use Rattle.sinks.specs.Writes.{TookUpTo}
use Rattle.query.specs.ByArcs.{geom_text}
use Rattle.query.specs.Sequences.{lines}
use Rattle.query.proofs.layer_text.sequence.write_lines.Given as goal

abbrev pub invariant-loop-geometry : goal.invariant-loop-geometry
invariant-loop-geometry g l =
    TookUpTo (g.W.Sink.seen l.initial.sink) (g.W.Sink.seen l.sink) (lines (geom_text l.topology) l.geometries) (lines (geom_text l.topology) l.left)

abbrev pub decreases-loop-geometry : goal.decreases-loop-geometry
decreases-loop-geometry g l = length l.left
