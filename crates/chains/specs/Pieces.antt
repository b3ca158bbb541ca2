-- Pieces of lines and rings.
use Rattle.std.specs.Prelude.{ℕ, Bool, true, false, not, cond, ◌&&◌, List, [], ◌∷◌, ◌++◌, take, drop, map}
use Rattle.std.specs.List.{list_any}
use Rattle.grid.specs.declared.pos.Pos.{Pos}
use Rattle.arcs.specs.Among.{among}
use Rattle.chains.specs.Starts.{start_index}
use Rattle.arcs.specs.declared.piece.Piece.{Piece}
use Rattle.arcs.specs.Pieces.{piece_along}

-- whether the list begins with no stop
abbrev pub begins_free : (Pos → Bool) → List Pos → Bool
begins_free stop [] = false
begins_free stop (x ∷ l) = not (stop x)

-- the piece of a chain, which is marked where it begins with no stop
abbrev pub oriented : (Pos → Bool) → List Pos → Piece
oriented stop c = piece_along (begins_free stop c) c

-- whether the list has a place
abbrev pub goes_on : List Pos → Bool
goes_on [] = false
goes_on (x ∷ l) = true

-- the parts of the list that begins with the positions `part` and goes on by the second list, cut at each stop behind which it goes on
abbrev pub cut_inside_from : (Pos → Bool) → List Pos → List Pos → List (List Pos)
cut_inside_from stop part [] = part ∷ []
cut_inside_from stop part (p ∷ rest) =
    cond (goes_on rest && stop p) ((part ++ (p ∷ [])) ∷ cut_inside_from stop (p ∷ []) rest) (cut_inside_from stop (part ++ (p ∷ [])) rest)

-- the parts of the list, cut at each inner place where there is a stop; what is behind the last of these is the last part
-- [topojson-server; own]
abbrev pub cut_inside : (Pos → Bool) → List Pos → List (List Pos)
cut_inside stop [] = [] ∷ []
cut_inside stop (x ∷ rest) = cut_inside_from stop (x ∷ []) rest

-- each part as a piece that is no free loop [topojson-server; own]
abbrev pub open_pieces : (Pos → Bool) → List Pos → List Piece
open_pieces stop l = map (piece_along false) (cut_inside stop l)

-- the list begun at a place, and the position there once more
abbrev pub opened_at : ℕ → List Pos → List Pos
opened_at i l = (drop i l ++ take i l) ++ take 1 (drop i l)

-- the ring, closed, from its least stop on, or from its least vertex on where no stop lies on it
abbrev pub started_ring : (Pos → Bool) → List Pos → List Pos
started_ring stop r = opened_at (start_index stop r) r

-- the parts of a ring: where a stop lies on it, cut from its least stop on; otherwise the list `whole` that goes round it
abbrev pub parts_round : (Pos → Bool) → List Pos → List Pos → List (List Pos)
parts_round stop r whole = cond (list_any stop r) (cut_inside stop (started_ring stop r)) (whole ∷ [])

-- each part of a ring as a piece, which is a free loop where no stop lies on the ring
abbrev pub pieces_round : (Pos → Bool) → List Pos → List Pos → List Piece
pieces_round stop r whole = map (piece_along (not (list_any stop r))) (parts_round stop r whole)

-- the pieces of a line, where these are the junctions [topojson-server; own]
abbrev pub line_pieces : List Pos → List Pos → List Piece
line_pieces junctions l = open_pieces (among junctions) l

-- the pieces of a ring, where these are the junctions; one on which none lies begins at its least vertex
-- [topojson-server; own]
abbrev pub ring_pieces : List Pos → List Pos → List Piece
ring_pieces junctions r = pieces_round (among junctions) r (started_ring (among junctions) r)
