-- Which new arcs an old one becomes.
use Rattle.std.specs.Prelude.{ℕ, ◌+◌, Bool, true, cond, List, [], ◌∷◌, map, get_or}
use Rattle.theory.specs.ArcNumbers.{ArcRef}
use Rattle.theory.specs.Geometry.{Geometry}
use Rattle.theory.specs.Refinement.{IsRefinementOf}
use Rattle.grid.specs.declared.pos.Pos.{Pos}
use Rattle.lines.specs.Turned.{position_cmp}
use Rattle.arcs.specs.Arcs.{Arcs}
use Rattle.chains.specs.OfArcs.{arc_pieces}
use Rattle.chains.specs.ArcPieces.{pieces_under}
use Rattle.arcs.specs.Table.{located, IsTableOf}
use Rattle.arcs.specs.declared.piece.Piece.{Piece}
use Rattle.split_heal.specs.SplitParts.{RecutParts}

-- the new arcs of an old one, where these are the junctions: its pieces
abbrev pub arc_used : List Pos → List (List Pos) → List (List Pos) → List Pos → List ArcRef
arc_used junctions loops new c = map (located new) (arc_pieces junctions loops c)

-- the pieces of arcs from that of number n on, each of which is its own one piece: an arc that is not marked stays so
abbrev pub pieces_from : List Pos → List Bool → ℕ → List Piece → List (List Piece)
pieces_from junctions marks n [] = []
pieces_from junctions marks n (p ∷ ps) = cond (get_or marks n true) (pieces_under junctions p) (p ∷ []) ∷ pieces_from junctions marks (n + 1) ps

-- the table is that of u, which m and n make together, and the arcs of both are cut into its arcs
pub record IsRecutOf (m n u : Geometry Pos) (left right : Arcs) (r : RecutParts) : Type 0 where
  pub table : IsTableOf u r.arcs
  pub of_left : IsRefinementOf position_cmp m u left.arcs r.arcs.arcs r.left
  pub of_right : IsRefinementOf position_cmp n u right.arcs r.arcs.arcs r.right
