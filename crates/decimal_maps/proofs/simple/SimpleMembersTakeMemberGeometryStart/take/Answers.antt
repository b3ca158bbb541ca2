use Rattle.std.proofs.Common.{refl, codes}
use Rattle.std.proofs.lemmas.Result.{on_ok_weaker}
use Rattle.json.specs.Json.{string}
use Rattle.decimal_maps.specs.Members.{AreCounted, IsKind, type_name}
use Rattle.decimal_maps.specs.declared.object.Lookup.TheVariants as lookup
use Rattle.decimal_maps.proofs.Naming.{member_read, member_kept, apart}
use Rattle.decimal_maps.proofs.Meaning.{simple_kept}
use Rattle.decimal_maps.proofs.simple.SimpleMembersTakeMemberGeometryStart.take.Goals as goal

pub returns-then-eq : goal.returns-then-eq
returns-then-eq c =
    let m = c.args.self.now in
    let name = c.args.name.now in
    let same = c.if-eq.ensures in
    let k = c.in_ok-kind.kind in
    let j = string (type_name k) in (
      j,
      c.in_ok-kind.ensures c.args.depth,
      λ ms known. (
        member_read (codes "type") IsKind (lookup.Read k) name j ms same refl,
        member_kept (codes "coordinates") (AreCounted c.args.on.now) m.coordinates name j ms (apart (codes "type") (codes "coordinates") name refl same) known.1,
      ),
    )

pub returns-then-eq-2 : goal.returns-then-eq-2
returns-then-eq-2 c =
    let m = c.args.self.now in
    let name = c.args.name.now in
    let r = c.in_ok-coordinates.ensures in (
      r.0,
      r.1,
      λ ms known. (
        member_kept (codes "type") IsKind m.kind name r.0 ms c.if-eq.ensures known.0,
        member_read (codes "coordinates") (AreCounted c.args.on.now) c.in_ok-coordinates.coordinates name r.0 ms c.if-eq-2.ensures r.2,
      ),
    )

pub returns : goal.returns
returns c =
    on_ok_weaker c.skip_value.result (λ read. (read.0, read.1, λ ms known. simple_kept c.args.on.now c.args.self.now c.args.name.now read.0 ms c.if-eq.ensures c.if-eq-2.ensures known)) c.skip_value.ensures
