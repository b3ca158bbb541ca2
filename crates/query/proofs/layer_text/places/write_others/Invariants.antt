use Rattle.std.proofs.Common.{length}
use Rattle.sinks.specs.Texts.{after_commas}
use Rattle.sinks.specs.Writes.{TookUpTo}
use Rattle.geojson_io.specs.CollectionText.{place_text}
use Rattle.query.proofs.layer_text.places.write_others.Given as goal

abbrev pub invariant-loop-place : goal.invariant-loop-place
invariant-loop-place g l =
    TookUpTo (g.W.Sink.seen l.initial.sink) (g.W.Sink.seen l.sink) (after_commas (place_text l.grid) l.fn.walk) (after_commas (place_text l.grid) l.walk)

abbrev pub decreases-loop-place : goal.decreases-loop-place
decreases-loop-place g l = length l.walk
