use Rattle.std.proofs.Common.{◌≡◌, ◌+ℤ◌, drop}
use Rattle.decimals.specs.Topology.Turning.{area_from}
use Rattle.decimals.proofs.topology.area.area_from.Given as goal

abbrev pub invariant-loop-position : goal.invariant-loop-position
invariant-loop-position l = l.area +ℤ area_from l.before (drop l.position-index l.others) ≡ area_from l.fn.first l.others
