use Rattle.std.proofs.lemmas.Map.Iter.{rest_more}
use Rattle.std.specs.Map.Iter.{deref_pair}
use Rattle.reading.specs.FaultLists.Found.{pairs_of}
use Rattle.decimal_topologies.specs.Geometries.{parts_of}
use Rattle.decimal_topologies.proofs.Layered.{judged_more}
use Rattle.decimal_topologies.proofs.objects.judge_layers.Goals as goal

pub loop-name-preserved : goal.loop-name-preserved
loop-name-preserved c =
    let of = c.args.of.now in
    judged_more (parts_of of.topology.now) of.rules.now c.args.fixing.now c.args.layers.now.entries _ _ (c.in-Some.name.now, c.in-Some.value.now) _ (pairs_of c.in_ok-part.part.items) _
    (rest_more deref_pair c.loop-name.name-iterator _ c.next.result (c.in-Some.name, c.in-Some.value) c.in-Some.is c.next.ensures.steps) c.loop-name.invariant c.in_ok-part.ensures c.in_ok-put_under_name.ensures
