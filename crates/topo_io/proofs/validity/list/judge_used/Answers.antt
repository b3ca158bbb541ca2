use Rattle.serde_json.specs.View.{view}
use Rattle.reading.specs.FaultLists.Found.{pairs_of}
use Rattle.topo_io.proofs.AllFaults.{stitching_only}
use Rattle.topo_io.proofs.Indexes.{used_along}
use Rattle.topo_io.proofs.validity.list.judge_used.Goals as goal

pub returns-in-Ok : goal.returns-in-Ok
returns-in-Ok c =
    let arcs = c.args.lists.now.arcs.now in
    let d = view c.args.value.now in
    let all = used_along arcs c.in-Ok.used.items c.deref.result.now d c.deref.ensures.value c.in-Ok.ensures.ok.1 in
    stitching_only c.args.kind arcs d c.deref.result.now (pairs_of c.in_ok-judge_outline-in-Ok.field-0.items) c.in-Ok.ensures.ok.0 all c.in_ok-judge_outline-in-Ok.ensures
