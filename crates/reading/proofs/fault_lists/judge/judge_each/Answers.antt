use Rattle.std.proofs.Common.{◌≡◌, true, false}
use Rattle.reading.specs.FaultLists.Found.{is_full, pairs_of}
use Rattle.reading.proofs.FaultListsLemmas.Wholes.{each_next, each_enough, each_end}
use Rattle.reading.proofs.fault_lists.judge.judge_each.Goals as goal

pub returns-then-is_enough : goal.returns-then-is_enough
returns-then-is_enough g c =
    let full : is_full c.args.wanted (pairs_of c.put_under_index.new.found.items) ≡ true = cc in
    each_enough c.args.wanted (g.J.Judge.faults c.args.of.now) _ c.args.values.now c.loop-i.i _ _ _ _ c.loop-i-test.true c.index-values-i.is c.loop-i.invariant c.in_ok-part.ensures c.in_ok-put_under_index.ensures full

pub loop-i-preserved : goal.loop-i-preserved
loop-i-preserved g c =
    let more : is_full c.args.wanted (pairs_of c.put_under_index.new.found.items) ≡ false = cc in
    each_next c.args.wanted (g.J.Judge.faults c.args.of.now) _ c.args.values.now c.loop-i.i _ _ _ _ c.loop-i-test.true c.index-values-i.is c.loop-i.invariant c.in_ok-part.ensures c.in_ok-put_under_index.ensures more

pub returns : goal.returns
returns g c = each_end c.args.wanted (g.J.Judge.faults c.args.of.now) _ c.args.values.now c.loop-i.i _ c.loop-i-test.false c.loop-i.invariant
