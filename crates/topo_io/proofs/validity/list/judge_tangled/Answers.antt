use Rattle.std.proofs.Common.{◌∙◌, subst, sym}
use Rattle.reading.specs.Fault.{LeastOrWant}
use Rattle.reading.proofs.Results.{err_map, on_ok_map}
use Rattle.normalize.specs.ArcLists.Lists.{SameFaults}
use Rattle.topo_io.proofs.JudgedLists.{kept_list}
use Rattle.topo_io.proofs.validity.list.judge_tangled.Goals as goal

pub returns-in-Ok-clause-ok : goal.returns-in-Ok-clause-ok
returns-in-Ok-clause-ok c =
    let arcs = c.args.lists.now.arcs.now in
    let same = kept_list arcs c.args.kind c.args.used.now c.deref.result.now (subst (SameFaults arcs c.args.used.now) (sym c.deref.ensures.value) c.in-Ok.ensures) c.requires in
    on_ok_map c.judge_stitched.result _ _ c.judge_stitched.ensures.ok (λ e. same ∙ e)

pub returns-in-Ok-clause-err : goal.returns-in-Ok-clause-err
returns-in-Ok-clause-err c =
    let arcs = c.args.lists.now.arcs.now in
    let same = kept_list arcs c.args.kind c.args.used.now c.deref.result.now (subst (SameFaults arcs c.args.used.now) (sym c.deref.ensures.value) c.in-Ok.ensures) c.requires in
    err_map c.judge_stitched.result _ _ c.judge_stitched.ensures.err (λ f told. subst (λ ps. LeastOrWant ps f) (sym same) told)
