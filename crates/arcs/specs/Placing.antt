-- Pieces with their places, and the arcs that they are.
use Rattle.std.specs.Prelude.{◌≡◌, ℕ, false, ◌+◌, ◌<◌, List, [], ◌∷◌, map, length, Some, slice_get}
use Rattle.theory.specs.ArcNumbers.{ArcRef}
use Rattle.theory.specs.Lists.{Has, gathered}
use Rattle.grid.specs.declared.pos.Pos.{Pos}
use Rattle.arcs.specs.Arcs.{Arcs}
use Rattle.arcs.specs.Keys.{key_of}
use Rattle.arcs.specs.Stored.{positions_of, stored_of, merged}
use Rattle.arcs.specs.Table.{located, is_loop}
use Rattle.arcs.specs.declared.piece.Piece.{Piece}
use Rattle.arcs.specs.declared.numbering.Placed.{Placed}
use Rattle.arcs.specs.declared.stored.StoredArc.{StoredArc}

-- the piece, without its place
abbrev pub piece_of : Placed → Piece
piece_of x = x.piece

-- pieces with their places, where the first has place n
abbrev pub placed_from : ℕ → List Piece → List Placed
placed_from n [] = []
placed_from n (p ∷ ps) = record { key = key_of p.chain; piece = p; index = n } ∷ placed_from (n + 1) ps

-- the arcs of pieces, of which those with one chain are together
abbrev pub arcs_of : List Placed → List (List Pos)
arcs_of l = map positions_of (merged (map stored_of (map piece_of l)))

-- the keys are those of the pieces' chains, one piece is at each place, and the places are less
-- than how many pieces there are
pub record ArePlaced (l : List Placed) : Type 0 where
  pub keys : (x : Placed) → Has x l → x.key ≡ key_of x.piece.chain
  pub one : (x y : Placed) → Has x l → Has y l → x.index ≡ y.index → x.piece ≡ y.piece
  pub within : (x : Placed) → Has x l → x.index < length l

-- at the place of each piece is the used arc that it is
abbrev pub AreRefsOf : List (List Pos) → List Placed → List ArcRef → Type 0
AreRefsOf arcs l refs = (x : Placed) → Has x l → slice_get refs x.index ≡ Some (located arcs x.piece)

-- a kept arc as its own one piece
abbrev pub own_piece : StoredArc → Piece
own_piece a = record { chain = a.positions; reversed = false; free = a.free }

-- an arc as its own one piece
abbrev pub whole : List (List Pos) → List Pos → List Piece
whole loops c = record { chain = c; reversed = false; free = is_loop loops c } ∷ []

-- each arc of a table as its own one piece
abbrev pub whole_pieces : Arcs → List Piece
whole_pieces t = gathered (whole t.loops) t.arcs
