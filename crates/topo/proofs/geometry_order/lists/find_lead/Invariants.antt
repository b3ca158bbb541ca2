use Rattle.std.proofs.Common.{◌≡◌, ◌+◌, drop}
use Rattle.topo.specs.GeometryOrder.Lists.{lead_from, lead_of}
use Rattle.topo.proofs.geometry_order.lists.find_lead.Given as goal

abbrev pub invariant-loop-i : goal.invariant-loop-i
invariant-loop-i l = lead_from l.fn.least l.best (l.i + 1) (drop l.i l.others) ≡ lead_of l.fn.least l.fn.used
