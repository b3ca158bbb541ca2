-- What is noted of the arcs of a table.
use Rattle.std.specs.Prelude.{List}
use Rattle.grid.specs.declared.pos.Pos.{Pos}
use Rattle.topo.specs.GeometryOrder.Least.{IsLeastOf}
use Rattle.topo.specs.declared.geometry_order.order.GeometryOrder.{GeometryOrder}

-- what is noted, where anything is, is of these arcs
pub record IsRecordedFor (arcs : List (List Pos)) (order : GeometryOrder) : Type 0 where
  pub least : IsLeastOf arcs order.least
