use Rattle.std.proofs.Common.{◌∙◌, ap}
use Rattle.geojson_io.specs.CollectionText.{feature_frame}
use Rattle.shapes.proofs.WritingLemmas.Same.{whole_as, part_as}
use Rattle.geojson_io.proofs.writer.FeatureOfWritten.write.Goals as goal

pub returns-clause-whole : goal.returns-clause-whole
returns-clause-whole g c =
    whole_as c.write.result (g.W.Sink.seen c.args.sink.now) (g.W.Sink.seen c.write.new.sink) _ _
    (ap (λ properties. feature_frame c.args.self.now.id.now properties (g.G.Written.text c.args.self.now.geometry)) (c.as_bytes.ensures.value ∙ c.text.ensures))
    c.write.ensures.whole

pub returns-clause-part : goal.returns-clause-part
returns-clause-part g c =
    part_as c.write.result (g.W.Sink.seen c.args.sink.now) (g.W.Sink.seen c.write.new.sink) _ _
    (ap (λ properties. feature_frame c.args.self.now.id.now properties (g.G.Written.text c.args.self.now.geometry)) (c.as_bytes.ensures.value ∙ c.text.ensures))
    c.write.ensures.part
