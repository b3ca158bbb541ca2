use Rattle.std.proofs.Common.{◌≡◌, ◌++◌, length}
use Rattle.topo.specs.GeometryOrder.Noted.{IsRecordedFor}
use Rattle.topo.specs.GeometryOrder.{HaveFeatures, geometry_cmp}
use Rattle.topo.specs.LayerLaws.CutLayers.{before, behind}
use Rattle.refine.proofs.cut.put_before.Given as goal

abbrev pub invariant-loop-others : goal.invariant-loop-others
invariant-loop-others l = record {
  recorded : IsRecordedFor l.fn.arcs.arcs l.by;
  there : HaveFeatures l.fn.arcs.arcs l.others.items;
  all : l.merged.items ++ before (geometry_cmp l.fn.arcs.arcs) l.fn.geometry l.others.items
      ≡ l.fn.merged.items ++ before (geometry_cmp l.fn.arcs.arcs) l.fn.geometry l.fn.others.items;
  rest : behind (geometry_cmp l.fn.arcs.arcs) l.fn.geometry l.others.items
      ≡ behind (geometry_cmp l.fn.arcs.arcs) l.fn.geometry l.fn.others.items;
}

abbrev pub decreases-loop-others : goal.decreases-loop-others
decreases-loop-others l = length l.others.items
