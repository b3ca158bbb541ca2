use Rattle.std.proofs.Common.{refl, codes}
use Rattle.std.proofs.lemmas.Result.{on_ok_weaker}
use Rattle.decimal_maps.specs.Members.{AreSimple}
use Rattle.decimal_maps.proofs.Naming.{member_read, member_kept, apart}
use Rattle.decimal_maps.proofs.Meaning.{simple_kept}
use Rattle.decimal_maps.proofs.geometry.GeometryMembersTakeMemberGeometryStart.take.Goals as goal

pub returns-then-eq : goal.returns-then-eq
returns-then-eq c =
    let on = c.args.on.now in
    let name = c.args.name.now in
    let same = c.if-eq.ensures in
    let r = c.in_ok-geometries.ensures in (
      r.0,
      r.1,
      λ ms known. (
        simple_kept on c.args.self.now.simple name r.0 ms (apart (codes "geometries") (codes "type") name refl same) (apart (codes "geometries") (codes "coordinates") name refl same) known.0,
        member_read (codes "geometries") (AreSimple on) c.in_ok-geometries.geometries name r.0 ms same r.2,
      ),
    )

pub returns : goal.returns
returns c =
    on_ok_weaker c.take.result (λ read. (read.0, read.1, λ ms known. (read.2 ms known.0, member_kept (codes "geometries") (AreSimple c.args.on.now) c.args.self.now.geometries c.args.name.now read.0 ms c.if-eq.ensures known.1))) c.take.ensures
