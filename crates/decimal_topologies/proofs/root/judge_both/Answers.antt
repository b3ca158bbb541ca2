use Rattle.std.proofs.Common.{◌≡◌, ◌∙◌, ◌++◌, Vec, ap}
use Rattle.std.specs.declared.alloc.Global.{Global}
use Rattle.std.proofs.lemmas.Result.{IfOk-weaker}
use Rattle.faults.specs.declared.fault.Fault.{Fault}
use Rattle.json.specs.Value.{value_view, items_view}
use Rattle.reading.specs.FaultLists.Found.{pairs_of}
use Rattle.decimal_topologies.specs.Roots.{content_of}
use Rattle.decimal_arcs.specs.Seen.{seen_arcs}
use Rattle.decimal_topologies.proofs.Rooted.{both_judged}
use Rattle.decimal_topologies.proofs.root.judge_both.Goals as goal

pub returns : goal.returns
returns c =
    let rules = c.args.rules.now in
    let fixing = c.args.fixing.now in
    let q = c.args.quantization.now in
    let j = value_view c.args.value.now in
    let js = items_view c.args.items.now in
    let first = c.in_ok-found.found.items in
    let others = c.in_ok-objects.objects.items in
    let all : (fs : Vec Fault Global) → fs.items ≡ first ++ others → pairs_of fs.items ≡ content_of q rules fixing j js = λ fs is.
    both_judged rules fixing j q js c.deref.result.now (seen_arcs c.as_slice.result.now) (pairs_of c.in_ok-faults.field-0.faults.items) first others fs.items (c.deref.ensures.value ∙ c.in_ok-used.ensures.used) c.in_ok-faults.ensures.faults
    (ap seen_arcs c.as_slice.ensures.value ∙ c.in_ok-faults.ensures.arcs) c.in_ok-found.ensures c.in_ok-objects.ensures is in
    IfOk-weaker c.join.result (λ fs. fs.items ≡ first ++ others) (λ fs. pairs_of fs.items ≡ content_of q rules fixing j js) all c.join.ensures
