use Rattle.geojson_io.proofs.TokenMembers.{feature_faultless, feature_means}
use Rattle.geojson_io.proofs.token_reader.feature.feature_of_parts.Goals as goal

pub returns : goal.returns
returns c g ms known =
    let m = c.args.parts in
    let props = c.in_ok-props.ensures ms known.1.1 in
    (feature_faultless g m.shape m.id m.props ms known, feature_means g m.shape m.id m.props ms c.unwrap_or-shape.result c.unwrap_or-id.result c.in_ok-props.props known c.unwrap_or-shape.ensures c.unwrap_or-id.ensures props)
