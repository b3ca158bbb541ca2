use Rattle.std.proofs.Common.{◌≡◌, ℕ, List, false, bytes_eq, refl, sym, subst, codes}
use Rattle.std.proofs.lemmas.Result.{on_ok_weaker}
use Rattle.decimal_maps.specs.Members.{KnowsGeometry, root_start}
use Rattle.decimal_maps.specs.Reads.{then_member}
use Rattle.decimal_maps.specs.Roots.{AreFeatures}
use Rattle.decimal_maps.proofs.Naming.{member_read, member_kept, apart, apart_any, none_of}
use Rattle.decimal_maps.proofs.Meaning.{geometry_kept, parts_kept}
use Rattle.decimal_maps.proofs.root.RootMembersTakeMemberMapRules.take.Goals as goal

pub returns-then-eq : goal.returns-then-eq
returns-then-eq c =
    let m = c.args.self.now in
    let on = c.args.on.now in
    let name = c.args.name.now in
    let same = c.if-eq.ensures in
    let r = c.in_ok-features.ensures in (
      r.0,
      r.1,
      λ ms known. (
        geometry_kept (root_start on) m.geometry name r.0 ms (apart (codes "features") (codes "type") name refl same) (apart (codes "features") (codes "coordinates") name refl same) (apart (codes "features") (codes "geometries") name refl same) known.0,
        member_read (codes "features") (λ j fs. AreFeatures on j fs.items) c.in_ok-features.features name r.0 ms same r.2,
        parts_kept on.grid m.parts name r.0 ms (apart (codes "features") (codes "geometry") name refl same) (apart (codes "features") (codes "id") name refl same) (apart (codes "features") (codes "properties") name refl same) known.2,
      ),
    )

pub returns-then-is_geometry_member : goal.returns-then-is_geometry_member
returns-then-is_geometry_member c =
    let m = c.args.self.now in
    let on = c.args.on.now in
    let name = c.args.name.now in
    let start = c.start_of-start.ensures in
    let apart_from : (w : List ℕ) → bytes_eq (codes "type") w ≡ false → bytes_eq (codes "coordinates") w ≡ false → bytes_eq (codes "geometries") w ≡ false → false ≡ bytes_eq name w = λ w x y z. apart_any _ _ _ (codes "type") (codes "coordinates") (codes "geometries") w name x y z refl refl refl c.if-is_geometry_member.ensures in
    on_ok_weaker c.take.result (λ read. (
      read.0,
      read.1,
      λ ms known. (
        subst (λ s. KnowsGeometry s c.take.new.self (then_member ms name read.0)) start (read.2 ms (subst (λ s. KnowsGeometry s m.geometry ms) (sym start) known.0)),
        member_kept (codes "features") (λ j fs. AreFeatures on j fs.items) m.features name read.0 ms c.if-eq.ensures known.1,
        parts_kept on.grid m.parts name read.0 ms (apart_from (codes "geometry") refl refl refl) (apart_from (codes "id") refl refl refl) (apart_from (codes "properties") refl refl refl) known.2,
      ),
    )) c.take.ensures

pub returns : goal.returns
returns c =
    let m = c.args.self.now in
    let on = c.args.on.now in
    let name = c.args.name.now in
    let none = none_of _ _ _ c.if-is_geometry_member.ensures in
    on_ok_weaker c.take_part.result (λ read. (
      read.0,
      read.1,
      λ ms known. (
        geometry_kept (root_start on) m.geometry name read.0 ms none.0 none.1 none.2 known.0,
        member_kept (codes "features") (λ j fs. AreFeatures on j fs.items) m.features name read.0 ms c.if-eq.ensures known.1,
        read.2 ms known.2,
      ),
    )) c.take_part.ensures
