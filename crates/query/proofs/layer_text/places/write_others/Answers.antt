use Rattle.std.proofs.Common.{ap}
use Rattle.sinks.specs.Texts.{after_commas}
use Rattle.sinks.proofs.Left.{left_step, left_part}
use Rattle.geojson_io.specs.CollectionText.{place_text}
use Rattle.query.proofs.layer_text.places.write_others.Goals as goal

pub loop-place-preserved : goal.loop-place-preserved
loop-place-preserved g c = left_step _ c.loop-place.invariant (ap (after_commas (place_text c.args.grid.now)) c.in-Some.ensures.steps) c.in-Ok.ensures.whole

pub returns-in-Err-clause-part : goal.returns-in-Err-clause-part
returns-in-Err-clause-part g c = left_part _ c.loop-place.invariant (ap (after_commas (place_text c.args.grid.now)) c.in-Some.ensures.steps) c.in-Err.ensures.part
