use Rattle.std.proofs.Common.{◌≡◌, Some, sym, ap, ◌∙◌, subst}
use Rattle.serde_json.specs.View.{view}
use Rattle.reading.specs.Fault.{LeastOrWant, unless_faulty}
use Rattle.reading.proofs.Faulty.{faultless_part}
use Rattle.reading.proofs.Results.{ok_map, err_map}
use Rattle.topo_io.specs.Arcs.{used_arcs, stitched, stitched_faults, list_or_none}
use Rattle.topo_io.proofs.Indexes.{used_along}
use Rattle.topo_io.proofs.reader.geometry.RefGroundPositions.read_positions.Goals as goal

pub returns-clause-ok : goal.returns-clause-ok
returns-clause-ok c =
    let arcs = c.args.self.now.now.arcs.now in
    let d = view c.args.value.now in
    let all = used_along arcs c.in_ok-used.used.items c.deref.result.now d c.deref.ensures.value c.in_ok-used.ensures.ok.1 in
    ok_map c.stitch.result _ _ c.stitch.ensures.made (λ ps made.
    let same : stitched (used_arcs arcs d) ≡ Some ps.items = sym (ap stitched all) ∙ made in
    (λ of. ap (λ faults. unless_faulty faults (stitched_faults of (stitched (used_arcs arcs d)))) c.in_ok-used.ensures.ok.0 ∙ ap (stitched_faults of) same, sym (ap list_or_none same)))

pub returns-clause-err : goal.returns-clause-err
returns-clause-err c =
    let arcs = c.args.self.now.now.arcs.now in
    let all = used_along arcs c.in_ok-used.used.items c.deref.result.now (view c.args.value.now) c.deref.ensures.value c.in_ok-used.ensures.ok.1 in
    err_map c.stitch.result _ _ c.stitch.ensures.err (λ f told of. faultless_part _ _ f c.in_ok-used.ensures.ok.0 (subst (λ cs. LeastOrWant (stitched_faults of (stitched cs)) f) all (told of)))
