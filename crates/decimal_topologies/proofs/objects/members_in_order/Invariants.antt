use Rattle.decimal_topologies.proofs.Layered.{Ordered}
use Rattle.decimal_topologies.proofs.objects.members_in_order.Given as goal

abbrev pub invariant-loop-i : goal.invariant-loop-i
invariant-loop-i l = Ordered l.members l.i l.found.entries
