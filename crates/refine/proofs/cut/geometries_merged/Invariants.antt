use Rattle.std.proofs.Common.{◌≡◌, ◌++◌}
use Rattle.std.specs.Vec.Iter.{into_iter_items}
use Rattle.topo.specs.LayerLaws.Cuts.{merged}
use Rattle.topo.specs.GeometryOrder.{HaveFeatures, geometry_cmp}
use Rattle.topo.specs.GeometryOrder.Noted.{IsRecordedFor}
use Rattle.refine.proofs.cut.geometries_merged.Given as goal

abbrev pub invariant-loop-geometry : goal.invariant-loop-geometry
invariant-loop-geometry l = record {
  left : HaveFeatures l.fn.arcs.arcs (into_iter_items l.geometry-iterator);
  right : HaveFeatures l.fn.arcs.arcs l.others.items;
  recorded : IsRecordedFor l.fn.arcs.arcs l.by;
  all : l.merged.items ++ merged (geometry_cmp l.fn.arcs.arcs) (into_iter_items l.geometry-iterator) l.others.items
      ≡ merged (geometry_cmp l.fn.arcs.arcs) l.fn.left.items l.fn.right.items;
}
