-- The pieces of an arc under any stops.
use Rattle.std.specs.Prelude.{◌≡◌, ◌≤◌, ℕ, Bool, true, false, cond, not, ◌&&◌, List, [], ◌∷◌, length, map, Option, Some, None}
use Rattle.std.specs.List.{list_any}
use Rattle.theory.specs.Geometry.{AtMost}
use Rattle.theory.specs.Lists.{Begins, Has, Passes, last_of}
use Rattle.theory.specs.Refinement.{unclosed}
use Rattle.theory.specs.Stitching.{Stitched}
use Rattle.grid.specs.declared.pos.Pos.{Pos}
use Rattle.lines.specs.Turned.{position_cmp}
use Rattle.chains.specs.Pieces.{started_ring, open_pieces, pieces_round}
use Rattle.arcs.specs.Pieces.{is_backwards_less, used}
use Rattle.chains.specs.Starts.{start_index}
use Rattle.arcs.specs.declared.piece.Piece.{Piece}
use Rattle.arcs.specs.Among.{among}

-- the place of the ring's least stop, where one lies on it [topojson-server; own]
abbrev pub least_stop : (Pos → Bool) → List Pos → Option ℕ
least_stop stop ring = cond (list_any stop ring) (Some (start_index stop ring)) None

-- whether a stop lies on the free loop [topojson-server; own]
abbrev pub meets_stop : (Pos → Bool) → List Pos → Bool
meets_stop stop c = list_any stop (unclosed c)

-- the free loop begun and ended at its least stop [topojson-server; own]
abbrev pub turned_loop : (Pos → Bool) → List Pos → List Pos
turned_loop stop c = started_ring stop (unclosed c)

-- the pieces of a free loop: where a stop lies on it, its parts from its least stop on; otherwise itself, and free
-- [topojson-server; own]
abbrev pub loop_pieces : (Pos → Bool) → List Pos → List Piece
loop_pieces stop c = pieces_round stop (unclosed c) c

-- the pieces of an arc, which may be a free loop [topojson-server; own]
abbrev pub pieces_at : (Pos → Bool) → Bool → List Pos → List Piece
pieces_at stop free c = cond free (loop_pieces stop c) (open_pieces stop c)

-- the arc as it is cut: a free loop on which a stop lies is turned to the least one [topojson-server; own]
abbrev pub read_from : (Pos → Bool) → Bool → List Pos → List Pos
read_from stop free c = cond (free && meets_stop stop c) (turned_loop stop c) c

-- the lists, one after the other, each from the last position of the one before, give the list
abbrev pub JoinTo : List Pos → List (List Pos) → Type 0
JoinTo [] cs = cs ≡ [] ∷ []
JoinTo (x ∷ r) cs = Stitched x cs r

-- the list ends with a stop
abbrev pub EndsAtStop : (Pos → Bool) → List Pos → Type 0
EndsAtStop stop [] = ⊥
EndsAtStop stop (x ∷ r) = stop (last_of x r) ≡ true

-- each list but the last ends with a stop
abbrev pub MeetAtStops : (Pos → Bool) → List (List Pos) → Type 0
MeetAtStops stop [] = Unit {0}
MeetAtStops stop (c ∷ []) = Unit {0}
MeetAtStops stop (c ∷ (d ∷ cs)) = EndsAtStop stop c × MeetAtStops stop (d ∷ cs)

-- v is a stop on the list, and none on it is less
pub record IsLeastStop (stop : Pos → Bool) (c : List Pos) (v : Pos) : Type 0 where
  pub there : Has v c
  pub stops : stop v ≡ true
  pub least : (u : Pos) → Has u c → stop u ≡ true → AtMost position_cmp v u

-- what pieces of an arc are that is cut at stops [topojson-server; own]
pub record AreCutAt (stop : Pos → Bool) (free : Bool) (c : List Pos) (ps : List Piece) : Type 0 where
  -- in the direction in which they are used they join to the arc as it is cut
  pub joined : JoinTo (read_from stop free c) (map used ps)
  -- a free loop on which a stop lies is cut from its least one on
  pub begins : free ≡ true → meets_stop stop c ≡ true → (v : Pos) → Begins v (read_from stop free c) → IsLeastStop stop (unclosed c) v
  -- where a piece ends and the next one begins, there is a stop
  pub meet : MeetAtStops stop (map used ps)
  -- no inner place of a piece is a stop
  pub inner : (p : Piece) (a v b : Pos) → Has p ps → Passes a v b (used p) → stop v ≡ false
  -- of an arc of two positions or more, so is each piece
  pub long : 2 ≤ length c → (p : Piece) → Has p ps → 2 ≤ length p.chain
  -- no piece comes after its reverse
  pub least : (p : Piece) → Has p ps → is_backwards_less p.chain ≡ false
  -- a piece is free exactly where the arc is a free loop on which no stop lies
  pub marked : (p : Piece) → Has p ps → p.free ≡ (free && not (meets_stop stop c))

-- the pieces of an arc that is its own one piece, where these are the junctions
abbrev pub pieces_under : List Pos → Piece → List Piece
pieces_under junctions p = pieces_at (among junctions) p.free p.chain
