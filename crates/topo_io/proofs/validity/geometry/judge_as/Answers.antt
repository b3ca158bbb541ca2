use Rattle.std.proofs.Common.{◌≡◌, false, sym, ap, ◌∙◌, subst}
use Rattle.serde_json.specs.View.{view}
use Rattle.reading.specs.FaultLists.Found.{AreFound, is_full, pairs_of}
use Rattle.reading.specs.Info.{info_faults}
use Rattle.reading.proofs.FaultListsLemmas.Kept.{found_more}
use Rattle.topo_text.specs.Geometries.{shape_faults, typed_faults_of}
use Rattle.topo_io.specs.Named.{named}
use Rattle.topo_text.proofs.Found.{pairs_join}
use Rattle.topo_io.proofs.validity.geometry.judge_as.Goals as goal

pub returns : goal.returns
returns c =
    let w = c.args.wanted in
    let l = c.args.on.now.limits in
    let arcs = named c.args.on.now.arcs in
    let d = view c.args.value.now in
    let fs = c.in_ok-body.body.items in
    let gs = c.in_ok-info.info.items in
    let more : is_full w (pairs_of fs) ≡ false = cc in
    subst (AreFound w (typed_faults_of l arcs c.args.kind d)) (sym (ap pairs_of c.in_ok-join.ensures ∙ pairs_join fs gs))
    (found_more w (shape_faults l arcs c.args.kind d) (info_faults d) (pairs_of fs) (pairs_of gs) c.in_ok-body.ensures c.in_ok-info.ensures more)
