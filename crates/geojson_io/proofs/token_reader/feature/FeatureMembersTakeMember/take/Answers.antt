use Rattle.std.proofs.Common.{codes, refl}
use Rattle.std.proofs.lemmas.Result.{on_ok_weaker}
use Rattle.serde_json.specs.Data.{string}
use Rattle.geojson_io.proofs.TokenMembers.{root_word, root_kept, feature_behind}
use Rattle.reading.proofs.TokenPartsLemmas.Members.{same_name, other_name}
use Rattle.geojson_io.proofs.token_reader.feature.FeatureMembersTakeMember.take.Goals as goal

pub returns-then-eq-clause-read : goal.returns-then-eq-clause-read
returns-then-eq-clause-read c =
    let m = c.args.self.now.parts in
    let name = c.args.name.now in
    let read = c.in_ok-kind.ensures.read in
    let d = string read.0 in
    let same = same_name name (codes "type") c.if-eq.ensures in
    (d, read.1 c.args.depth, λ ms known. (root_word name read.0 c.in_ok-kind.kind ms same read.2, feature_behind c.args.on.now.grid m.shape m.id m.props name d ms (codes "type") same refl refl refl known.1))

pub returns-clause-read : goal.returns-clause-read
returns-clause-read c =
    let name = c.args.name.now in
    let other = other_name name (codes "type") c.if-eq.ensures in
    on_ok_weaker c.take.result (λ read. (read.0, read.1, λ ms known. (root_kept c.args.self.now.kind name read.0 ms other known.0, read.2 ms known.1))) c.take.ensures.read
