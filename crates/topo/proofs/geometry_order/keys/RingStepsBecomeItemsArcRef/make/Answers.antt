use Rattle.std.proofs.Common.{◌≤◌, length, subst, sym}
use Rattle.topo.proofs.GeometryOrderLemmas.LeastSteps.{lead_within}
use Rattle.topo.proofs.geometry_order.keys.RingStepsBecomeItemsArcRef.make.Goals as goal

pub split_at-requires : goal.split_at-requires
split_at-requires c =
    subst (λ l. l.behind ≤ length c.as_slice-used.result.now) (sym c.find_lead-lead.ensures) (lead_within c.args.self.now.0.now.least.now c.as_slice-used.result.now)
