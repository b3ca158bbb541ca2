use Rattle.std.proofs.Common.{◌≤◌, length, subst, sym}
use Rattle.topo.proofs.GeometryOrderLemmas.LeastSteps.{lead_within}
use Rattle.topo.proofs.geometry_order.lists.ring_order.Goals as goal

pub turned_order-requires : goal.turned_order-requires
turned_order-requires c = record {
  index = subst (λ l. l.behind ≤ length c.args.used.now) (sym c.find_lead-ours.ensures) (lead_within c.args.view.now.least.now c.args.used.now);
  other_index = subst (λ l. l.behind ≤ length c.args.other.now) (sym c.find_lead-theirs.ensures) (lead_within c.args.view.now.least.now c.args.other.now);
}
