use Rattle.std.proofs.lemmas.Result.{IfOk-weaker}
use Rattle.serde_json.specs.Data.{object}
use Rattle.geojson_io.specs.Features.{feature_of}
use Rattle.geojson_io.proofs.TokenMembers.{one_plain}
use Rattle.geojson_io.proofs.token_reader.root.features_of_feature.Goals as goal

pub returns : goal.returns
returns c =
    let made = c.in_ok-feature in
    IfOk-weaker c.single.result _ _ (λ fs only. λ g ms known.
    let both = made.ensures g ms known in
    (both.0, one_plain made.feature fs.items (feature_of g (object ms)) both.1 only)) c.single.ensures
