use Rattle.reading.specs.FaultLists.Found.{pairs_of}
use Rattle.decimal_arcs.proofs.Table.{steps_more}
use Rattle.decimal_arcs.proofs.arcs.read_steps.Goals as goal

pub loop-i-preserved : goal.loop-i-preserved
loop-i-preserved c =
    steps_more c.args.quantization.now c.args.values.now c.loop-i.i c.loop-i.sums _ (pairs_of c.loop-i.faults.items) (pairs_of c.in_ok-step.step.faults.items) _ c.loop-i.places.items _ c.in_ok-step.step.place
    c.index-values-i.result c.loop-i-test.true c.index-values-i.is c.loop-i.invariant c.in_ok-step.ensures.faults c.in_ok-step.ensures.place c.in_ok-step.ensures.sums c.in_ok-put_under_index.ensures c.in_ok-push.ensures.items
