use Rattle.std.proofs.Common.{refl}
use Rattle.std.proofs.lemmas.Result.{IfOk-weaker}
use Rattle.serde_json.specs.Data.{object}
use Rattle.geojson_io.proofs.token_reader.root.RootFeaturesFromTokens.read.Goals as goal

pub read_object-requires : goal.read_object-requires
read_object-requires c = (tt, (refl, (c.nothing_known.ensures c.args.self.now.position.grid, tt)))

pub features_of_members-requires : goal.features_of_members-requires
features_of_members-requires c =
    let r = c.in_ok-read_object.ensures.read in
    (c.args.self.now.position.grid, r.0, r.2)

pub returns-clause-read : goal.returns-clause-read
returns-clause-read c =
    let r = c.in_ok-read_object.ensures.read in
    IfOk-weaker c.features_of_members.result _ _
    (λ fs is. let both = is c.args.self.now.position.grid r.0 r.2 in record { from = object r.0; given = r.1; faultless = both.0; meant = both.1 }) c.features_of_members.ensures
