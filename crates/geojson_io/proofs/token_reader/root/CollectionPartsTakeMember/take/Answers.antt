use Rattle.std.proofs.Common.{codes}
use Rattle.std.proofs.lemmas.Result.{on_ok_weaker}
use Rattle.reading.proofs.TokenPartsLemmas.Members.{same_name, other_name}
use Rattle.geojson_io.proofs.TokenMembers.{with_features, features_kept}
use Rattle.geojson_io.proofs.token_reader.root.CollectionPartsTakeMember.take.Goals as goal

pub returns-then-eq-clause-read : goal.returns-then-eq-clause-read
returns-then-eq-clause-read c =
    let m = c.args.self.now in
    let name = c.args.name.now in
    let r = c.in_ok-features.ensures.read in
    let same = same_name name (codes "features") c.if-eq.ensures in
    (r.from, r.given, λ ms known. with_features c.args.on.now.grid m.features name r.from ms c.in_ok-features.features same r.faultless r.meant)

pub returns-clause-read : goal.returns-clause-read
returns-clause-read c =
    let name = c.args.name.now in
    let other = other_name name (codes "features") c.if-eq.ensures in
    on_ok_weaker c.skip_value.result (λ read. (read.0, read.1, λ ms known. features_kept c.args.on.now.grid c.args.self.now.features name read.0 ms other known)) c.skip_value.ensures.read
