use Rattle.std.proofs.Common.{◌≡◌, false, codes, sym, ap, ◌∙◌, subst}
use Rattle.std.proofs.lemmas.List.{map-append}
use Rattle.serde_json.specs.View.{view}
use Rattle.faults.specs.Fault.{pair_of}
use Rattle.reading.specs.FaultLists.Found.{is_full, AreFound, pairs_of}
use Rattle.reading.specs.Info.{info_faults}
use Rattle.reading.specs.Parts.{option_faults, unless_null}
use Rattle.reading.proofs.FaultListsLemmas.Kept.{found_more}
use Rattle.geojson_io.specs.Features.{feature_members}
use Rattle.geojson_io.specs.Geometries.{geometry_faults}
use Rattle.geojson_io.proofs.validity.feature.judge_feature.Goals as goal

pub returns : goal.returns
returns c =
    let w = c.args.wanted in
    let t = c.args.grid.now in
    let d = view c.args.value.now in
    let fs = c.in_ok-geometry.geometry.items in
    let gs = c.in_ok-info.info.items in
    let more : is_full w (pairs_of fs) ≡ false = cc in
    subst (AreFound w (feature_members t d)) (sym (ap pairs_of c.in_ok-found.ensures ∙ map-append pair_of fs gs))
    (found_more w (option_faults (codes "geometry") (unless_null (geometry_faults t)) d) (info_faults d) (pairs_of fs) (pairs_of gs) c.in_ok-geometry.ensures c.in_ok-info.ensures more)
