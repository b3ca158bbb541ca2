use Rattle.std.proofs.Common.{length}
use Rattle.sinks.specs.Texts.{after_commas}
use Rattle.sinks.specs.Writes.{TookUpTo}
use Rattle.geojson_io.specs.CollectionText.{place_text}
use Rattle.query.specs.Steps.{up_to_from}
use Rattle.query.proofs.layer_text.places.write_up_to.Given as goal

abbrev pub invariant-loop-next : goal.invariant-loop-next
invariant-loop-next g l =
    TookUpTo (g.W.Sink.seen l.initial.sink) (g.W.Sink.seen l.sink) (after_commas (place_text l.grid) (up_to_from l.fn.step l.fn.here l.fn.walk))
    (after_commas (place_text l.grid) (up_to_from l.fn.step l.here l.walk))

abbrev pub decreases-loop-next : goal.decreases-loop-next
decreases-loop-next g l = length l.walk
