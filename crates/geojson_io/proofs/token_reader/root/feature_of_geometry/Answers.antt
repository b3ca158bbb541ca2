use Rattle.std.proofs.Common.{ap, ◌∙◌}
use Rattle.geojson_io.specs.Features.{bare}
use Rattle.geojson_io.proofs.TokenMembers.{typed_known}
use Rattle.geojson_io.proofs.token_reader.root.feature_of_geometry.Goals as goal

pub returns-in-Ok : goal.returns-in-Ok
returns-in-Ok c g ms known =
    let both = typed_known g c.args.kind c.args.coordinates c.in_ok-shape.shape ms known c.in_ok-shape.ensures in
    (both.0, c.in-Ok.ensures.ok ∙ ap bare both.1)
