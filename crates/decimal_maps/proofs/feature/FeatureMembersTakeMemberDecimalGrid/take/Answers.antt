use Rattle.std.proofs.Common.{refl, codes}
use Rattle.std.proofs.lemmas.Result.{on_ok_weaker}
use Rattle.json.specs.Json.{string}
use Rattle.decimal_maps.specs.Members.{IsKind, type_name}
use Rattle.decimal_maps.specs.declared.object.Lookup.TheVariants as lookup
use Rattle.decimal_maps.proofs.Naming.{member_read, member_kept, apart}
use Rattle.decimal_maps.proofs.Meaning.{parts_kept}
use Rattle.decimal_maps.proofs.feature.FeatureMembersTakeMemberDecimalGrid.take.Goals as goal

pub returns-then-eq : goal.returns-then-eq
returns-then-eq c =
    let name = c.args.name.now in
    let same = c.if-eq.ensures in
    let k = c.in_ok-kind.kind in
    let j = string (type_name k) in (
      j,
      c.in_ok-kind.ensures c.args.depth,
      λ ms known. (
        member_read (codes "type") IsKind (lookup.Read k) name j ms same refl,
        parts_kept c.args.on.now c.args.self.now.parts name j ms (apart (codes "type") (codes "geometry") name refl same) (apart (codes "type") (codes "id") name refl same) (apart (codes "type") (codes "properties") name refl same) known.1,
      ),
    )

pub returns : goal.returns
returns c =
    on_ok_weaker c.take.result (λ read. (read.0, read.1, λ ms known. (member_kept (codes "type") IsKind c.args.self.now.kind c.args.name.now read.0 ms c.if-eq.ensures known.0, read.2 ms known.1))) c.take.ensures
