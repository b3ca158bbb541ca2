use Rattle.std.proofs.Common.{subst, sym}
use Rattle.rounded_maps.specs.Contents.{AreMapsOf}
use Rattle.rounded_maps.proofs.files.content_maps.Goals as goal

pub returns-in_ok-only_map-in-Map : goal.returns-in_ok-only_map-in-Map
returns-in_ok-only_map-in-Map c =
    subst (λ k. AreMapsOf c.args.rules.now c.args.place c.args.is_named k c.in_ok-only_map-in-Map.field-0.maps.items c.in_ok-only_map-in-Map.field-0.origins.items)
    (sym c.in-Map.is) (c.in_ok-map-in-Map.map, (c.in_ok-map-in-Map.ensures, c.in_ok-only_map-in-Map.ensures))
