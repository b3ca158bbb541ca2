use Rattle.std.proofs.Common.{◌≡◌, ◌++◌, drop, map}
use Rattle.topo.specs.GeometryOrder.{HaveFeatures}
use Rattle.topo.specs.GeometryOrder.Noted.{IsRecordedFor}
use Rattle.topo.specs.LayerLaws.Leaving.{others}
use Rattle.refine.specs.Difference.{by_lists}
use Rattle.refine.proofs.difference.remaining_geometries.Given as goal

abbrev pub invariant-loop-geometry : goal.invariant-loop-geometry
invariant-loop-geometry l = record {
  there : HaveFeatures l.fn.both.arcs.arcs l.others.items;
  recorded : IsRecordedFor l.fn.both.arcs.arcs l.by;
  made : map (λ g. g.now) l.left.items ++ others (by_lists l.fn.both) (drop l.geometry-index l.fn.geometries) l.others.items
      ≡ others (by_lists l.fn.both) l.fn.geometries l.fn.removed.items;
}
