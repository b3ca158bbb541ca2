use Rattle.std.proofs.Common.{◌≡◌, List, ap, map, rules}
use Rattle.serde_json.specs.Data.{Data}
use Rattle.serde_json.specs.View.{view}
use Rattle.theory.specs.Topology.{points, line, lines, polygon, polygons}
use Rattle.grid.specs.declared.pos.Pos.{Pos}
use Rattle.lines.specs.Seen.{positions_of, vertices_of}
use Rattle.reading.specs.Fault.{LeastOrWant}
use Rattle.reading.specs.Outlines.{line_faults, line_of, ring_of}
use Rattle.reading.specs.Parts.{elements}
use Rattle.reading.proofs.Lists.{zip_is, zip_map, zip_weaker}
use Rattle.reading.proofs.shape.ShapeFromPart.read.Goals as goal

pub returns-in_ok-read-in-MultiPoint-clause-ok : goal.returns-in_ok-read-in-MultiPoint-clause-ok
returns-in_ok-read-in-MultiPoint-clause-ok g c =
    let made = c.in_ok-read-in-MultiPoint.ensures.ok in
    rw c.in-MultiPoint.is (made.0, ap points (zip_is (g.S.Positions.position c.args.self.now.from) (elements (view c.args.value.now)) c.in_ok-read-in-MultiPoint.field-0 made.1))

pub returns-in_err-read-in-LineString-clause-err : goal.returns-in_err-read-in-LineString-clause-err
returns-in_err-read-in-LineString-clause-err g c =
    let part : LeastOrWant (g.S.Positions.list_faults c.args.self.now.from line_faults (view c.args.value.now)) c.in_err-read-in-LineString.field-0.0 = c.in_err-read-in-LineString.ensures.err in
    search (rules, part)

pub returns-in_ok-read-in-LineString-clause-ok : goal.returns-in_ok-read-in-LineString-clause-ok
returns-in_ok-read-in-LineString-clause-ok g c =
    let made = c.in_ok-read-in-LineString.ensures.ok in
    rw c.in-LineString.is (made.0, ap line made.1)

pub returns-in_ok-read-in-MultiLineString-clause-ok :
    goal.returns-in_ok-read-in-MultiLineString-clause-ok
returns-in_ok-read-in-MultiLineString-clause-ok g c =
    let made = c.in_ok-read-in-MultiLineString.ensures.ok in
    rw c.in-MultiLineString.is (made.0, ap lines (zip_map positions_of (λ e. line_of (g.S.Positions.positions c.args.self.now.from e)) (elements (view c.args.value.now)) c.in_ok-read-in-MultiLineString.field-0 made.1))

pub returns-in_ok-read-in-Polygon-clause-ok : goal.returns-in_ok-read-in-Polygon-clause-ok
returns-in_ok-read-in-Polygon-clause-ok g c =
    let made = c.in_ok-read-in-Polygon.ensures.ok in
    rw c.in-Polygon.is (made.0, ap polygon (zip_map vertices_of (λ e. ring_of (g.S.Positions.positions c.args.self.now.from e)) (elements (view c.args.value.now)) c.in_ok-read-in-Polygon.field-0 made.1))

pub returns-in_ok-read-in-MultiPolygon-clause-ok :
    goal.returns-in_ok-read-in-MultiPolygon-clause-ok
returns-in_ok-read-in-MultiPolygon-clause-ok g c =
    let ring_at : Data → List Pos = λ e. ring_of (g.S.Positions.positions c.args.self.now.from e) in
    let made = c.in_ok-read-in-MultiPolygon.ensures.ok in
    let each = zip_weaker _ (λ d xs. map vertices_of xs ≡ map ring_at (elements d)) (elements (view c.args.value.now)) c.in_ok-read-in-MultiPolygon.field-0 (λ d xs h. zip_map vertices_of ring_at (elements d) xs h) made.1 in
    rw c.in-MultiPolygon.is (made.0, ap polygons (zip_map (map vertices_of) (λ p. map ring_at (elements p)) (elements (view c.args.value.now)) c.in_ok-read-in-MultiPolygon.field-0 each))
