use Rattle.std.proofs.Common.{refl, codes}
use Rattle.std.proofs.lemmas.Result.{on_ok_weaker}
use Rattle.json.specs.Value.{value_view}
use Rattle.decimal_maps.specs.Members.{IsCountedGeometry, IsValue}
use Rattle.decimal_maps.specs.declared.object.Lookup.TheVariants as lookup
use Rattle.decimal_maps.proofs.Naming.{member_read, member_kept, apart}
use Rattle.decimal_maps.proofs.Meaning.{parts_kept}
use Rattle.decimal_maps.proofs.feature.FeaturePartsTakeMemberDecimalGrid.take.Goals as goal

pub returns-then-eq : goal.returns-then-eq
returns-then-eq c =
    let m = c.args.self.now in
    let name = c.args.name.now in
    let same = c.if-eq.ensures in
    let r = c.in_ok-geometry.ensures in (
      r.0,
      r.1,
      λ ms known. (
        member_read (codes "geometry") (IsCountedGeometry c.args.on.now) (lookup.Read c.in_ok-geometry.geometry) name r.0 ms same r.2,
        member_kept (codes "id") IsValue m.id name r.0 ms (apart (codes "geometry") (codes "id") name refl same) known.1,
        member_kept (codes "properties") IsValue m.properties name r.0 ms (apart (codes "geometry") (codes "properties") name refl same) known.2,
      ),
    )

pub returns-then-eq-2 : goal.returns-then-eq-2
returns-then-eq-2 c =
    let m = c.args.self.now in
    let name = c.args.name.now in
    let same = c.if-eq-2.ensures in
    let v = c.in_ok-id.id in
    let j = value_view v in (
      j,
      c.in_ok-id.ensures,
      λ ms known. (
        member_kept (codes "geometry") (IsCountedGeometry c.args.on.now) m.geometry name j ms c.if-eq.ensures known.0,
        member_read (codes "id") IsValue (lookup.Read v) name j ms same refl,
        member_kept (codes "properties") IsValue m.properties name j ms (apart (codes "id") (codes "properties") name refl same) known.2,
      ),
    )

pub returns-then-eq-3 : goal.returns-then-eq-3
returns-then-eq-3 c =
    let m = c.args.self.now in
    let name = c.args.name.now in
    let v = c.in_ok-properties.properties in
    let j = value_view v in (
      j,
      c.in_ok-properties.ensures,
      λ ms known. (
        member_kept (codes "geometry") (IsCountedGeometry c.args.on.now) m.geometry name j ms c.if-eq.ensures known.0,
        member_kept (codes "id") IsValue m.id name j ms c.if-eq-2.ensures known.1,
        member_read (codes "properties") IsValue (lookup.Read v) name j ms c.if-eq-3.ensures refl,
      ),
    )

pub returns : goal.returns
returns c =
    on_ok_weaker c.skip_value.result (λ read. (read.0, read.1, λ ms known. parts_kept c.args.on.now c.args.self.now c.args.name.now read.0 ms c.if-eq.ensures c.if-eq-2.ensures c.if-eq-3.ensures known)) c.skip_value.ensures
