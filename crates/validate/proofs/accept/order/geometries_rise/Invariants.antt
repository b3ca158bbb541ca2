use Rattle.std.proofs.Common.{◌≡◌, ◌∷◌, drop}
use Rattle.topo.specs.GeometryOrder.Noted.{IsRecordedFor}
use Rattle.topo.specs.GeometryOrder.{HaveFeatures, geometry_cmp}
use Rattle.validate.specs.Accept.Order.{rises}
use Rattle.validate.proofs.accept.order.geometries_rise.Given as goal

abbrev pub invariant-loop-geometry : goal.invariant-loop-geometry
invariant-loop-geometry l = record {
  there : HaveFeatures l.fn.table.arcs (l.before ∷ drop l.geometry-index l.others);
  recorded : IsRecordedFor l.fn.table.arcs l.order;
  rest : rises (geometry_cmp l.fn.table.arcs) (l.before ∷ drop l.geometry-index l.others) ≡ rises (geometry_cmp l.fn.table.arcs) l.fn.geometries;
}
