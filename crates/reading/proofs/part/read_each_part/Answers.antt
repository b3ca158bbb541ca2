use Rattle.std.proofs.Common.{sym, ◌∙◌, subst, arith, map, take, ◌+◌}
use Rattle.std.specs.List.{AllZip}
use Rattle.serde_json.specs.View.{view}
use Rattle.reading.specs.Fault.{LeastOrWant}
use Rattle.reading.proofs.Lists.{each_passed, each_refused, zip_more}
use Rattle.reading.proofs.part.read_each_part.Goals as goal

pub returns-in-Err-clause-err : goal.returns-in-Err-clause-err
returns-in-Err-clause-err g c =
    subst (λ ps. LeastOrWant ps c.under_index.result) (sym c.loop-i.invariant.judged)
    (each_refused (g.P.Part.faults c.args.part.now) c.args.values.now c.loop-i.i c.index-values-i.result c.in-Err.fault c.under_index.result (omega arith) c.index-values-i.is c.in-Err.ensures.err c.under_index.ensures)

pub loop-i-preserved : goal.loop-i-preserved
loop-i-preserved g c = record {
  judged = c.loop-i.invariant.judged ∙ each_passed (g.P.Part.faults c.args.part.now) c.args.values.now c.loop-i.i c.index-values-i.result (omega arith) c.index-values-i.is c.in-Ok.ensures.ok.0;
  meant = subst (AllZip (g.P.Part.means c.args.part.now) (map view (take (c.loop-i.i + 1) c.args.values.now))) (sym c.in_ok-keep-in-Ok.ensures.ok)
      (zip_more (g.P.Part.means c.args.part.now) c.args.values.now c.loop-i.i c.index-values-i.result c.loop-i.found.items c.in-Ok.made (omega arith) c.index-values-i.is c.loop-i.invariant.meant c.in-Ok.ensures.ok.1);
}
