use Rattle.std.proofs.Common.{false, length}
use Rattle.sinks.specs.Writes.{TookUpTo}
use Rattle.difference_text.specs.DifferenceJson.{objects_text}
use Rattle.difference_text.specs.DifferenceParts.{layer_report}
use Rattle.difference_text.proofs.object.write_objects.Given as goal

abbrev pub invariant-loop-changes : goal.invariant-loop-changes
invariant-loop-changes g l =
    TookUpTo (g.W.Sink.seen l.initial.sink) (g.W.Sink.seen l.sink) (objects_text (layer_report l.view.difference.now.is_keyed l.view.old.now l.view.new.now) false l.layers)
    (objects_text (layer_report l.view.difference.now.is_keyed l.view.old.now l.view.new.now) l.is_behind l.left)

abbrev pub decreases-loop-changes : goal.decreases-loop-changes
decreases-loop-changes g l = length l.left
