-- The table of the pieces of a map is the arcs of the map.
use Rattle.std.proofs.Common.{List, map, sym, subst}
use Rattle.theory.specs.Lists.{Has}
use Rattle.theory.specs.Geometry.{Geometry, IsSound, JunctionOf}
use Rattle.theory.specs.Arcs.{IsArcOf, AreArcsOf, AreSortedOnce}
use Rattle.theory.proofs.ListsOfLists.{map_has}
use Rattle.theory.proofs.SegmentsOnce.{sorted_pieces_are_arcs, segments_once}
use Rattle.grid.specs.declared.pos.Pos.{Pos}
use Rattle.lines.specs.Turned.{position_cmp, list_cmp}
use Rattle.arcs.specs.Pieces.{chain_of}
use Rattle.arcs.specs.Arcs.{Arcs}
use Rattle.arcs.specs.Table.{AreLoopsOf, ArePiecesOfMap, IsTableOf}
use Rattle.arcs.specs.declared.piece.Piece.{Piece}
use Rattle.lines.specs.Positions.{position_total, position_same}
use Rattle.lines.proofs.Positions.{position_dec}
use Rattle.arcs.proofs.Marks.{all_marked}

-- sorted, each once, the pieces of a map are its arcs
pub table_is : (g : Geometry Pos) → IsSound g → (ps : List Piece) (t : Arcs) → AreSortedOnce list_cmp (map chain_of ps) t.arcs → AreLoopsOf ps t.loops →
    ArePiecesOfMap g ps → IsTableOf g t
table_is g sound ps t s m are =
    let good : (c : List Pos) → Has c (map chain_of ps) → IsArcOf position_cmp g c =
    λ c h. (let k = map_has chain_of ps c h in subst (IsArcOf position_cmp g) (sym k.2) (are.each k.0 k.1).arc) in
    let arcs : AreArcsOf position_cmp g t.arcs = sorted_pieces_are_arcs position_cmp position_total position_same position_dec g sound (map chain_of ps) are.all t.arcs good s in
    record {
      arcs = arcs;
      free = all_marked (JunctionOf g) ps t (λ p h. (are.each p h).free) m s.only;
      once = segments_once position_cmp position_total position_same position_dec g sound t.arcs arcs;
    }
