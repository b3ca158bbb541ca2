use Rattle.geojson_io.specs.TokenCoordinates.{OutlineOf}
use Rattle.geojson_io.proofs.TokenShapes.{zip_more}
use Rattle.geojson_io.proofs.token_reader.shape.outlines_of.Goals as goal

pub loop-list-preserved : goal.loop-list-preserved
loop-list-preserved g c =
    let l = c.loop-list in
    zip_more (OutlineOf g.O.Outline.fault g.O.Outline.seen g.O.Outline.of) l.yielded l.found.items c.push.new.self.items c.in-Some.list c.in_ok-outline_of.field-0 c.in-Ok.ensures.items l.invariant c.in_ok-outline_of.ensures
