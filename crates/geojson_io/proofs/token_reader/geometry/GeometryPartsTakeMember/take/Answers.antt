use Rattle.std.proofs.Common.{codes}
use Rattle.std.proofs.lemmas.Result.{on_ok_weaker}
use Rattle.reading.proofs.TokensLemmas.Reading.{gives_shorter}
use Rattle.reading.proofs.TokenPartsLemmas.Members.{same_name, other_name}
use Rattle.geojson_io.proofs.TokenMembers.{coordinates_known, coordinates_kept}
use Rattle.geojson_io.proofs.token_reader.geometry.GeometryPartsTakeMember.take.Goals as goal

pub returns-then-eq-clause-read : goal.returns-then-eq-clause-read
returns-then-eq-clause-read c =
    let name = c.args.name.now in
    let r = c.in_ok-coordinates.ensures.read in
    let same = same_name name (codes "coordinates") c.if-eq.ensures in
    (r.from, r.given, λ ms known. coordinates_known c.args.on.now.grid c.in_ok-coordinates.coordinates name r.from ms same r.faultless r.meant)

pub returns-then-eq-clause-shorter : goal.returns-then-eq-clause-shorter
returns-then-eq-clause-shorter c =
    let r = c.in_ok-coordinates.ensures.read in
    gives_shorter c.args.depth c.args.reader.now c.read_coordinates.new.reader r.from r.given

pub returns-clause-read : goal.returns-clause-read
returns-clause-read c =
    let name = c.args.name.now in
    let other = other_name name (codes "coordinates") c.if-eq.ensures in
    on_ok_weaker c.skip_value.result (λ read. (read.0, read.1, λ ms known. coordinates_kept c.args.on.now.grid c.args.self.now.coordinates name read.0 ms other known)) c.skip_value.ensures.read
