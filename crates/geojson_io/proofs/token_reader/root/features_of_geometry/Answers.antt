use Rattle.std.proofs.Common.{subst}
use Rattle.std.proofs.lemmas.Result.{IfOk-weaker}
use Rattle.serde_json.specs.Data.{object}
use Rattle.geojson_io.specs.Features.{bare}
use Rattle.geojson_io.specs.Geometries.{typed_form}
use Rattle.geojson_io.specs.TokenMembers.{KnowsCoordinates}
use Rattle.geojson_io.proofs.TokenMembers.{one_plain}
use Rattle.geojson_io.proofs.token_reader.root.features_of_geometry.Goals as goal

pub returns-in_ok-feature-in-Some : goal.returns-in_ok-feature-in-Some
returns-in_ok-feature-in-Some c =
    let made = c.in_ok-feature-in-Some in
    IfOk-weaker c.single.result _ _ (λ fs only. λ g ms known.
    let both = made.ensures g ms (subst (λ o. KnowsCoordinates g o ms) c.in-Some.is known) in
    (both.0, one_plain made.feature fs.items (bare (typed_form g c.args.kind (object ms))) both.1 only)) c.single.ensures
