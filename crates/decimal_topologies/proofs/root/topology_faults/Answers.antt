use Rattle.std.proofs.lemmas.Result.{IfOk-weaker}
use Rattle.json.specs.Value.{value_view}
use Rattle.reading.specs.FaultLists.Found.{pairs_of}
use Rattle.decimal_topologies.proofs.Order.{topology_in_order}
use Rattle.decimal_topologies.proofs.root.topology_faults.Goals as goal

pub returns-clause-sorted : goal.returns-clause-sorted
returns-clause-sorted c =
    IfOk-weaker c.judge_root.result _ _ (λ fs is. topology_in_order c.args.rules.now c.args.fixing.now (value_view c.args.value.now) (pairs_of fs.items) is) c.judge_root.ensures
