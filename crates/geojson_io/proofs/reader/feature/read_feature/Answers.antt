use Rattle.std.proofs.Common.{codes, refl, rules}
use Rattle.serde_json.specs.View.{view}
use Rattle.faults.specs.Path.{name}
use Rattle.reading.specs.Fault.{LeastOrWant}
use Rattle.reading.proofs.Least.{first_of, after_under, after_append}
use Rattle.geojson_io.specs.Features.{feature_members}
use Rattle.geojson_io.proofs.reader.feature.read_feature.Goals as goal

pub returns-in_err-shape-clause-err : goal.returns-in_err-shape-clause-err
returns-in_err-shape-clause-err c =
    let part : LeastOrWant (feature_members c.args.position.now.grid (view c.args.value.now)) c.in_err-shape.field-0.0 = first_of (name (codes "geometry")) _ _ c.in_err-shape.field-0.0 c.in_err-shape.ensures.err (after_append (name (codes "geometry")) _ _ (after_under _ (name (codes "id")) _ refl) (after_under _ (name (codes "properties")) _ refl)) in
    search (rules, part)
