use Rattle.shapes.proofs.WritingLemmas.Same.{whole_as, part_as}
use Rattle.geojson_io.proofs.Collections.{points_text, lines_text, rings_text, polygons_text}
use Rattle.geojson_io.proofs.writer.FormNotationNotationForm.write_value.Goals as goal

pub returns-in-MultiPoint-clause-whole : goal.returns-in-MultiPoint-clause-whole
returns-in-MultiPoint-clause-whole g c =
    whole_as c.write-in-MultiPoint.result (g.W.Sink.seen c.args.sink.now) (g.W.Sink.seen c.write-in-MultiPoint.new.sink) _ _
    (points_text _ _ _ c.as_slice.ensures c.in-MultiPoint.is) c.write-in-MultiPoint.ensures.whole

pub returns-in-MultiPoint-clause-part : goal.returns-in-MultiPoint-clause-part
returns-in-MultiPoint-clause-part g c =
    part_as c.write-in-MultiPoint.result (g.W.Sink.seen c.args.sink.now) (g.W.Sink.seen c.write-in-MultiPoint.new.sink) _ _
    (points_text _ _ _ c.as_slice.ensures c.in-MultiPoint.is) c.write-in-MultiPoint.ensures.part

pub returns-in-MultiLine-clause-whole : goal.returns-in-MultiLine-clause-whole
returns-in-MultiLine-clause-whole g c =
    whole_as c.write-in-MultiLine.result (g.W.Sink.seen c.args.sink.now) (g.W.Sink.seen c.write-in-MultiLine.new.sink) _ _
    (lines_text _ _ _ c.as_slice-in-MultiLine.ensures c.in-MultiLine.is) c.write-in-MultiLine.ensures.whole

pub returns-in-MultiLine-clause-part : goal.returns-in-MultiLine-clause-part
returns-in-MultiLine-clause-part g c =
    part_as c.write-in-MultiLine.result (g.W.Sink.seen c.args.sink.now) (g.W.Sink.seen c.write-in-MultiLine.new.sink) _ _
    (lines_text _ _ _ c.as_slice-in-MultiLine.ensures c.in-MultiLine.is) c.write-in-MultiLine.ensures.part

pub returns-in-Polygon-clause-whole : goal.returns-in-Polygon-clause-whole
returns-in-Polygon-clause-whole g c =
    whole_as c.write-in-Polygon.result (g.W.Sink.seen c.args.sink.now) (g.W.Sink.seen c.write-in-Polygon.new.sink) _ _
    (rings_text _ _ _ c.as_slice-in-Polygon.ensures c.in-Polygon.is) c.write-in-Polygon.ensures.whole

pub returns-in-Polygon-clause-part : goal.returns-in-Polygon-clause-part
returns-in-Polygon-clause-part g c =
    part_as c.write-in-Polygon.result (g.W.Sink.seen c.args.sink.now) (g.W.Sink.seen c.write-in-Polygon.new.sink) _ _
    (rings_text _ _ _ c.as_slice-in-Polygon.ensures c.in-Polygon.is) c.write-in-Polygon.ensures.part

pub returns-in-MultiPolygon-clause-whole : goal.returns-in-MultiPolygon-clause-whole
returns-in-MultiPolygon-clause-whole g c =
    whole_as c.write-in-MultiPolygon.result (g.W.Sink.seen c.args.sink.now) (g.W.Sink.seen c.write-in-MultiPolygon.new.sink) _ _
    (polygons_text _ _ _ c.as_slice-in-MultiPolygon.ensures c.in-MultiPolygon.is) c.write-in-MultiPolygon.ensures.whole

pub returns-in-MultiPolygon-clause-part : goal.returns-in-MultiPolygon-clause-part
returns-in-MultiPolygon-clause-part g c =
    part_as c.write-in-MultiPolygon.result (g.W.Sink.seen c.args.sink.now) (g.W.Sink.seen c.write-in-MultiPolygon.new.sink) _ _
    (polygons_text _ _ _ c.as_slice-in-MultiPolygon.ensures c.in-MultiPolygon.is) c.write-in-MultiPolygon.ensures.part
