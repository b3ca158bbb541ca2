use Rattle.std.proofs.Common.{ap}
use Rattle.sinks.specs.Texts.{joined}
use Rattle.sinks.proofs.Left.{then_err_at, part_at}
use Rattle.geojson_io.specs.CollectionText.{place_text}
use Rattle.geojson_io.proofs.writer.JoinedPlacesWritten.write.Goals as goal

pub returns-in-Ok-clause-part : goal.returns-in-Ok-clause-part
returns-in-Ok-clause-part g c = then_err_at _ _ _ (ap (joined (place_text c.args.self.now.1.now)) c.in-Some.ensures.cases.0) c.in-Ok.ensures.whole c.write_after_commas.ensures.part

pub returns-in-Err-clause-part : goal.returns-in-Err-clause-part
returns-in-Err-clause-part g c = part_at _ (ap (joined (place_text c.args.self.now.1.now)) c.in-Some.ensures.cases.0) c.in-Err.ensures.part
