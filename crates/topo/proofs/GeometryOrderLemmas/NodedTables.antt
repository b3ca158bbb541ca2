-- The arcs of a map are noded.
use Rattle.std.proofs.Common.{◌≤◌, List, [], ◌∷◌, length, arith}
use Rattle.grid.specs.declared.pos.Pos.{Pos}
use Rattle.lines.specs.Turned.{position_cmp}
use Rattle.arcs.specs.Arcs.{Arcs}
use Rattle.arcs.specs.Table.{IsTableOf}
use Rattle.theory.specs.Geometry.{Geometry, IsChainOf}
use Rattle.topo.specs.GeometryOrder.Noded.{AreNoded}

pub table_noded : (g : Geometry Pos) (t : Arcs) → IsTableOf g t → AreNoded t.arcs
table_noded g t h = record {
  one_arc = h.once.one_arc;
  one_place = h.once.one_place;
  long = λ c k. two c (h.arcs.arcs_only c k).chain;
}
  where
    two : (c : List Pos) → IsChainOf position_cmp g c → 2 ≤ length c
    two [] k = absurd k
    two (x ∷ r) k = let n : 1 ≤ length r = k.long in omega arith
