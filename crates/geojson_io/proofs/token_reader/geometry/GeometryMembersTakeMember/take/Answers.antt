use Rattle.std.proofs.Common.{codes}
use Rattle.std.proofs.lemmas.Result.{on_ok_weaker}
use Rattle.serde_json.specs.Data.{string}
use Rattle.geojson_io.proofs.TokenMembers.{type_known, kind_kept, coordinates_kept, not_both}
use Rattle.reading.proofs.TokenPartsLemmas.Members.{same_name, other_name}
use Rattle.geojson_io.proofs.token_reader.geometry.GeometryMembersTakeMember.take.Goals as goal

pub returns-then-eq-clause-read : goal.returns-then-eq-clause-read
returns-then-eq-clause-read c =
    let read = c.in_ok-kind.ensures.read in
    let same = same_name c.args.name.now (codes "type") c.if-eq.ensures in (
      string read.0,
      read.1 c.args.depth,
      λ ms known. (
        type_known c.args.name.now read.0 c.in_ok-kind.kind ms same read.2,
        coordinates_kept c.args.on.now.grid c.args.self.now.parts.coordinates c.args.name.now (string read.0) ms (not_both c.args.name.now same) known.1,
      ),
    )

pub returns-clause-read : goal.returns-clause-read
returns-clause-read c =
    let other = other_name c.args.name.now (codes "type") c.if-eq.ensures in
    on_ok_weaker c.take.result (λ read. (read.0, read.1, λ ms known. (kind_kept c.args.self.now.kind c.args.name.now read.0 ms other known.0, read.2 ms known.1))) c.take.ensures.read
