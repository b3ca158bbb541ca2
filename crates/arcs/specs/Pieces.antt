-- A piece: a chain in its least direction.
use Rattle.std.specs.Prelude.{Bool, cond, List, reverse}
use Rattle.std.specs.Ordering.{is_lt}
use Rattle.theory.specs.Lists.{Has}
use Rattle.theory.specs.Chain.{Free}
use Rattle.theory.specs.Geometry.{Geometry, JunctionOf}
use Rattle.theory.specs.Arcs.{IsArcOf}
use Rattle.grid.specs.declared.pos.Pos.{Pos}
use Rattle.lines.specs.Turned.{position_cmp, list_cmp}
use Rattle.arcs.specs.Among.{Tells}
use Rattle.arcs.specs.declared.piece.Piece.{Piece}

-- the chain in its least direction [TopoJSON, 2; own]
abbrev pub chain_of : Piece → List Pos
chain_of p = p.chain

-- whether it is used against that direction [TopoJSON, 2; own]
abbrev pub is_reversed : Piece → Bool
is_reversed p = p.reversed

-- whether it is marked as a free loop [TopoJSON, 2; own]
abbrev pub is_free : Piece → Bool
is_free p = p.free

-- the chain in the direction in which it is used [TopoJSON, 2; own]
abbrev pub used : Piece → List Pos
used p = cond p.reversed (reverse p.chain) p.chain

-- whether the list read backwards comes before it
abbrev pub is_backwards_less : List Pos → Bool
is_backwards_less l = is_lt (list_cmp (reverse l) l)

-- of the list and its reverse the lesser
abbrev pub least_direction : List Pos → List Pos
least_direction l = cond (is_backwards_less l) (reverse l) l

-- the piece of a chain, with this mark
abbrev pub piece_along : Bool → List Pos → Piece
piece_along free c = record { chain = least_direction c; reversed = is_backwards_less c; free = free }

-- the piece is an arc of the map, marked as free exactly where no junction lies on it [topojson-server; own]
pub record IsPieceOf (g : Geometry Pos) (p : Piece) : Type 0 where
  pub arc : IsArcOf position_cmp g p.chain
  pub free : Tells p.free (Free (JunctionOf g) p.chain)

-- each is a piece of the map [topojson-server; own]
abbrev pub ArePieces : Geometry Pos → List Piece → Type 0
ArePieces g ps = (p : Piece) → Has p ps → IsPieceOf g p
