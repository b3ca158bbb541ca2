use Rattle.std.proofs.Common.{◌≡◌, length, map}
use Rattle.sinks.specs.Writes.{TookUpTo}
use Rattle.rounded_maps.specs.Written.{feature_text, is_after, texts_behind}
use Rattle.rounded_maps.proofs.collection.write_shapes.Given as goal

abbrev pub invariant-loop-shape : goal.invariant-loop-shape
invariant-loop-shape g l = record {
  took_up : TookUpTo (g.W.Sink.seen l.initial.sink) (g.W.Sink.seen l.sink) (texts_behind l.fn.is_behind (map (feature_text l.grid l.feature) l.feature.shapes.items)) (texts_behind l.is_behind (map (feature_text l.grid l.feature) l.left));
  next : is_after l.is_behind (map (feature_text l.grid l.feature) l.left) ≡ is_after l.fn.is_behind (map (feature_text l.grid l.feature) l.feature.shapes.items);
}

abbrev pub decreases-loop-shape : goal.decreases-loop-shape
decreases-loop-shape g l = length l.left
