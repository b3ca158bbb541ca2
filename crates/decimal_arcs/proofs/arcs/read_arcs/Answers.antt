use Rattle.std.proofs.Common.{refl, ap, ◌∙◌}
use Rattle.reading.specs.FaultLists.Found.{pairs_of}
use Rattle.decimal_arcs.specs.Seen.{seen_arcs}
use Rattle.decimal_arcs.proofs.Table.{seen_more, table_more}
use Rattle.decimal_arcs.proofs.arcs.read_arcs.Goals as goal

pub loop-i-preserved : goal.loop-i-preserved
loop-i-preserved c =
    table_more c.args.quantization.now c.args.used.now c.args.values.now c.loop-i.i (pairs_of c.loop-i.faults.items) (pairs_of c.in_ok-found.found.items) _ (seen_arcs c.loop-i.arcs.items) _ _
    c.index-values-i.result c.is_used-in_use.result c.loop-i-test.true c.index-values-i.is c.is_used-in_use.ensures c.loop-i.invariant c.in_ok-found.ensures.faults c.in_ok-found.ensures.arc
    c.in_ok-put_under_index.ensures (ap seen_arcs c.in_ok-push.ensures.items ∙ seen_more c.loop-i.arcs.items c.in_ok-found.arc _ refl)
