use Rattle.std.proofs.Common.{◌≡◌, length}
use Rattle.topo.specs.GeometryOrder.Noted.{IsRecordedFor}
use Rattle.topo.specs.GeometryOrder.{HaveFeatures, geometry_cmp}
use Rattle.topo.specs.LayerLaws.Leaving.{from_on}
use Rattle.refine.proofs.difference.is_next_among.Given as goal

abbrev pub invariant-loop-others : goal.invariant-loop-others
invariant-loop-others l = record {
  recorded : IsRecordedFor l.fn.arcs.arcs l.by;
  there : HaveFeatures l.fn.arcs.arcs l.others.items;
  rest : from_on (geometry_cmp l.fn.arcs.arcs) l.fn.geometry l.others.items
      ≡ from_on (geometry_cmp l.fn.arcs.arcs) l.fn.geometry l.fn.others.items;
}

abbrev pub decreases-loop-others : goal.decreases-loop-others
decreases-loop-others l = length l.others.items
