use Rattle.std.proofs.Common.{refl}
use Rattle.decimal_topologies.proofs.Layered.{ordered_more}
use Rattle.decimal_topologies.proofs.objects.members_in_order.Goals as goal

pub loop-i-preserved : goal.loop-i-preserved
loop-i-preserved c =
    ordered_more c.args.members.now c.loop-i.i c.index-members-i.result _ _ _ _ c.loop-i-test.true c.index-members-i.is refl refl c.loop-i.invariant c.in-Ok.ensures.entries
