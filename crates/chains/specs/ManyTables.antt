-- The arcs of many tables, one table after another, each arc as its own one piece.
use Rattle.std.specs.Prelude.{◌≡◌, ℕ, Bool, true, false, cond, drop, List, [], ◌∷◌, ◌++◌, get_or, map, Some, slice_get}
use Rattle.theory.specs.Geometry.{Geometry, IsLineOf, IsRingOf, IsSound}
use Rattle.theory.specs.Lists.{Has, Pairwise, Twice, gathered}
use Rattle.theory.specs.Refinement.{IsPartOf, unclosed}
use Rattle.grid.specs.declared.pos.Pos.{Pos}
use Rattle.arcs.specs.Arcs.{Arcs}
use Rattle.chains.specs.OfArcs.{table_as_map}
use Rattle.chains.specs.ArcPieces.{pieces_under}
use Rattle.arcs.specs.Placing.{whole_pieces}
use Rattle.arcs.specs.Stored.{first_of}
use Rattle.arcs.specs.Table.{IsTableOf}
use Rattle.chains.specs.VertexFilter.{meets}
use Rattle.chains.specs.Visits.{around_of, ends_of, inner_of}
use Rattle.arcs.specs.declared.piece.Piece.{Piece}
use Rattle.chains.specs.declared.visits.Visit.{Visit}

-- u has the lines and the rings of all the maps, and no others
pub record IsUnionOfAll (maps : List (Geometry Pos)) (u : Geometry Pos) : Type 0 where
  pub parts : (m : Geometry Pos) → Has m maps → IsPartOf m u
  pub lines : (l : List Pos) → IsLineOf u l → (m : Geometry Pos) × Has m maps × IsLineOf m l
  pub rings : (r : List Pos) → IsRingOf u r → (m : Geometry Pos) × Has m maps × IsRingOf m r

-- the maps are sound, and each table is that of the map at its place
pub record AreTablesOf (maps : List (Geometry Pos)) (tables : List Arcs) : Type 0 where
  pub sound : (m : Geometry Pos) → Has m maps → IsSound m
  pub each : Pairwise IsTableOf maps tables

-- the arcs of all tables, one table after another, each as its own one piece
abbrev pub arcs_of_all : List Arcs → List Piece
arcs_of_all tables = gathered whole_pieces tables

-- the lines of a table's arcs: those that are no free loops
abbrev pub lines_of_table : Arcs → List (List Pos)
lines_of_table t = (table_as_map t).lines

-- the rings of a table's arcs: those that the free loops go round
abbrev pub rings_of_table : Arcs → List (List Pos)
rings_of_table t = (table_as_map t).rings

-- the arcs of all tables: those that are not free as lines, the free loops as rings
abbrev pub all_as_map : List Arcs → Geometry Pos
all_as_map tables = record { lines = gathered lines_of_table tables; rings = gathered rings_of_table tables }

-- the ends of an arc as a line; a free loop has none
abbrev pub piece_ends : Piece → List Pos
piece_ends p = cond p.free [] (ends_of p.chain)

-- the visits of an arc that are no ends
abbrev pub piece_visits : Piece → List Visit
piece_visits p = cond p.free (around_of (unclosed p.chain)) (inner_of p.chain)

-- the visits of an arc that are no ends, where it is marked
abbrev pub marked_visits : Bool → Piece → List Visit
marked_visits b p = cond b (piece_visits p) []

-- those of arcs; one for which a mark is missing is not marked
abbrev pub all_marked_visits : List Bool → List Piece → List Visit
all_marked_visits marks [] = []
all_marked_visits marks (p ∷ ps) = marked_visits (first_of marks) p ++ all_marked_visits (drop 1 marks) ps

-- the vertices of an arc: the first and the last of a free loop are one
abbrev pub vertices_once : Piece → List Pos
vertices_once p = cond p.free (drop 1 p.chain) p.chain

-- whether it is said of an inner vertex of an arc
abbrev pub piece_meets : (Pos → Bool) → Piece → Bool
piece_meets may p = meets may p.free p.chain

-- it holds of each position that is twice in the list
abbrev pub HoldsTwice : (Pos → Bool) → List Pos → Type 0
HoldsTwice may ps = (v : Pos) → Twice v ps → may v ≡ true

-- of arcs those are marked that have an inner vertex of which something is said that holds of each vertex that comes twice among all
pub record MarkShared (marks : List Bool) (pieces : List Piece) : Type 0 where
  pub may : Pos → Bool
  pub twice : HoldsTwice may (gathered vertices_once pieces)
  pub marks_are : marks ≡ map (piece_meets may) pieces

-- an arc that is not marked is its own one piece, where these are the junctions
abbrev pub UnmarkedStayWhole : List Pos → List Piece → List Bool → Type 0
UnmarkedStayWhole junctions pieces marks = (i : ℕ) (p : Piece) → slice_get pieces i ≡ Some p → get_or marks i true ≡ false → pieces_under junctions p ≡ p ∷ []
