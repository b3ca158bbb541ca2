-- The arcs of tables as lines and rings: those that are not free are lines, the free loops are rings.
use Rattle.std.specs.Prelude.{◌≡◌, not, cond, List, [], Option, Some, None, map, ◌⊎◌}
use Rattle.theory.specs.Chain.{Free}
use Rattle.theory.specs.Geometry.{Geometry, JunctionOf}
use Rattle.theory.specs.LinesAndRings.{closed}
use Rattle.theory.specs.Refinement.{both_of, unclosed}
use Rattle.theory.specs.Stitching.{ArePiecesOf, AreRingPiecesOf}
use Rattle.theory.specs.TopologyFunction.{keep}
use Rattle.grid.specs.declared.pos.Pos.{Pos}
use Rattle.lines.specs.Turned.{position_cmp}
use Rattle.arcs.specs.Among.{among}
use Rattle.chains.specs.ArcPieces.{pieces_at}
use Rattle.arcs.specs.Arcs.{Arcs}
use Rattle.arcs.specs.Pieces.{used, ArePieces}
use Rattle.arcs.specs.Table.{is_loop}
use Rattle.chains.specs.Visits.{inner_of, around_of, ends_of}
use Rattle.arcs.specs.declared.piece.Piece.{Piece}
use Rattle.chains.specs.declared.visits.Visit.{Visit}

-- the arcs that are no free loops
abbrev pub open_in : List (List Pos) → List (List Pos) → List (List Pos)
open_in loops arcs = keep (λ c. not (is_loop loops c)) arcs

-- the rings that the free loops go round
abbrev pub loops_in : List (List Pos) → List (List Pos) → List (List Pos)
loops_in loops arcs = map unclosed (keep (is_loop loops) arcs)

-- the arcs of a table: those that are not free as lines, the free loops as rings
abbrev pub table_as_map : Arcs → Geometry Pos
table_as_map t = record { lines = open_in t.loops t.arcs; rings = loops_in t.loops t.arcs }

-- the arcs of two tables
abbrev pub tables_as_map : Arcs → Arcs → Geometry Pos
tables_as_map s t = both_of (table_as_map s) (table_as_map t)

-- the ends of an arc as a line; a free loop has none
abbrev pub arc_ends : List (List Pos) → List Pos → List Pos
arc_ends loops c = cond (is_loop loops c) [] (ends_of c)

-- the visits of an arc that are no ends
abbrev pub arc_visits : List (List Pos) → List Pos → List Visit
arc_visits loops c = cond (is_loop loops c) (around_of (unclosed c)) (inner_of c)

-- the pieces of an arc, where these are the junctions [topojson-server; own]
abbrev pub arc_pieces : List Pos → List (List Pos) → List Pos → List Piece
arc_pieces junctions loops c = pieces_at (among junctions) (is_loop loops c) c

-- the pieces of an arc, where there is one [topojson-server; own]
abbrev pub pieces_if : List Pos → List (List Pos) → Option (List Pos) → List Piece
pieces_if junctions loops None = []
pieces_if junctions loops (Some c) = arc_pieces junctions loops c

-- the pieces of the arc c of g under the junctions of u, in order along it: of a line, or, where c is free, of a ring
-- [topojson-server; own]
pub record ArePiecesUnder (g u : Geometry Pos) (c : List Pos) (ps : List Piece) : Type 0 where
  pub each : ArePieces u ps
  pub along :
      ((¬ Free (JunctionOf g) c) × ArePiecesOf position_cmp u c (map used ps))
      ⊎ ((loop : List Pos) × (c ≡ closed loop) × Free (JunctionOf g) c × AreRingPiecesOf position_cmp u loop (map used ps))
