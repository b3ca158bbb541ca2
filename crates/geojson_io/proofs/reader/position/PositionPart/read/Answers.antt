use Rattle.std.proofs.Common.{◌≡◌, [], ◌∙◌, rules}
use Rattle.reading.proofs.Positions.{number_reads}
use Rattle.serde_json.specs.View.{view}
use Rattle.reading.specs.Fault.{LeastOrWant}
use Rattle.reading.specs.Parts.{pair_faults, IsPair, elements}
use Rattle.geojson_io.specs.Positions.{coordinate_faults, position_faults}
use Rattle.geojson_io.proofs.Places.{same_axes, two_inside, pair_is, IsCoordinate}
use Rattle.geojson_io.proofs.reader.position.PositionPart.read.Goals as goal

pub returns-in_err-x-clause-err : goal.returns-in_err-x-clause-err
returns-in_err-x-clause-err c =
    let t = c.args.self.now.grid in
    let d = view c.args.value.now in
    let part : LeastOrWant (position_faults t d) c.in_err-x.field-0.0 =
    same_axes (λ s u. LeastOrWant (pair_faults (coordinate_faults s) (coordinate_faults u) d) c.in_err-x.field-0.0) c.x_axis.result t.x c.y_axis.result t.y c.x_axis.ensures c.y_axis.ensures c.in_err-x.ensures.err in
    search (rules, part)

pub returns-clause-ok : goal.returns-clause-ok
returns-clause-ok c =
    let t = c.args.self.now.grid in
    let d = view c.args.value.now in
    let none : position_faults t d ≡ [] =
    same_axes (λ s u. pair_faults (coordinate_faults s) (coordinate_faults u) d ≡ []) c.x_axis.result t.x c.y_axis.result t.y c.x_axis.ensures c.y_axis.ensures c.in_ok-x.ensures.ok in
    let two : IsPair (IsCoordinate t.x) (IsCoordinate t.y) (elements d) c.in_ok-x.x c.in_ok-x.y =
    same_axes (λ s u. IsPair (IsCoordinate s) (IsCoordinate u) (elements d) c.in_ok-x.x c.in_ok-x.y) c.x_axis.result t.x c.y_axis.result t.y c.x_axis.ensures c.y_axis.ensures c.in_ok-x.ensures.made in
    let inside = two_inside t.x t.y (elements d) c.in_ok-x.x c.in_ok-x.y two in
    let given = c.in-Some.ensures.given in
    (none, pair_is t (elements d) c.in_ok-x.x c.in_ok-x.y c.in-Some.position two (given.0 ∙ number_reads c.in_ok-x.x inside.0) (given.1 ∙ number_reads c.in_ok-x.y inside.1))
