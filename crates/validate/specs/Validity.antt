-- Lists of used arcs that are together over a table of arcs, and what follows from it.
use Rattle.std.specs.Prelude.{◌≡◌, ℕ, List, Some, slice_get, ◌⊎◌}
use Rattle.grid.specs.declared.pos.Pos.{Pos}
use Rattle.lines.specs.Turned.{position_cmp}
use Rattle.theory.specs.ArcNumbers.{ArcRef, StitchTo, Uses}
use Rattle.theory.specs.Geometry.{Geometry, IsSound, JunctionOf}
use Rattle.theory.specs.LinesAndRings.{IsRotation, closed}
use Rattle.theory.specs.Lists.{Has, Pairwise, gathered}
use Rattle.theory.specs.Validity.{ArcsAreNoded, IsListOfLine, IsReadRing}
use Rattle.theory.specs.Topology.{IsRingList}
use Rattle.arcs.specs.Arcs.{Arcs}
use Rattle.chains.specs.OfArcs.{table_as_map}
use Rattle.arcs.specs.Table.{IsTableOf}
use Rattle.validate.specs.Lists.{IsValidLine, IsValidRing}
use Rattle.validate.specs.ArcEnds.{EndsMeet, line_ends}

-- the lists of lines and of rings are valid: each for itself, each arc is used, and each end of an arc that is not free is
-- where one of the lines begins or ends, or three ends of arcs meet there
pub record AreValidLists (t : Arcs) (lines rings : List (List ArcRef)) : Type 0 where
  pub each_line : (us : List ArcRef) → Has us lines → IsValidLine t.arcs (table_as_map t) us
  pub each_ring : (us : List ArcRef) → Has us rings → IsValidRing position_cmp t.arcs us
  pub used : (k : ℕ) (c : List Pos) → slice_get t.arcs k ≡ Some c → (us : List ArcRef) × (Has us lines ⊎ Has us rings) × Uses k us
  pub ends : EndsMeet t.arcs (table_as_map t) (gathered (line_ends t.arcs) lines)

-- the map's lines, and its rings, closed, are what the lists stitch to
pub record AreListsOf (arcs : List (List Pos)) (lines rings : List (List ArcRef)) (g : Geometry Pos) : Type 0 where
  pub of_lines : Pairwise (λ l us. StitchTo arcs us l) g.lines lines
  pub of_rings : Pairwise (λ r us. StitchTo arcs us (closed r)) g.rings rings

-- the list stitches to the ring, begun at one of its vertices, and closed
abbrev pub StitchAround : List (List Pos) → List ArcRef → List Pos → Type 0
StitchAround arcs us r = (q : List Pos) × IsRotation r q × StitchTo arcs us (closed q)

-- the same, each ring begun at one of its vertices
pub record AreTurnedListsOf (arcs : List (List Pos)) (lines rings : List (List ArcRef)) (g : Geometry Pos) : Type 0 where
  pub of_lines : Pairwise (λ l us. StitchTo arcs us l) g.lines lines
  pub of_rings : Pairwise (λ r us. StitchAround arcs us r) g.rings rings

-- valid lists are those of a map
abbrev pub ListsMakeAMap : Type 0
ListsMakeAMap =
    (t : Arcs) → ArcsAreNoded position_cmp t.arcs (table_as_map t) → (lines rings : List (List ArcRef)) → AreValidLists t lines rings →
    (g : Geometry Pos) × AreListsOf t.arcs lines rings g

-- the arcs are those of the map, with its free loops, and each list is the one that the map's topology has, from whichever
-- of its vertices the map has a ring
abbrev pub ListsAreTheMaps : Type 0
ListsAreTheMaps =
    (t : Arcs) → ArcsAreNoded position_cmp t.arcs (table_as_map t) → (lines rings : List (List ArcRef)) → AreValidLists t lines rings →
    (g : Geometry Pos) → AreTurnedListsOf t.arcs lines rings g →
    IsSound g × IsTableOf g t × Pairwise (IsRingList position_cmp (JunctionOf g) t.arcs) g.rings rings

-- a line's or a ring's valid list is read as it is, whatever line or ring it stitches to
abbrev pub ListsAreRead : Type 0
ListsAreRead =
    (t : Arcs) → ArcsAreNoded position_cmp t.arcs (table_as_map t) → (us : List ArcRef) →
    ((l : List Pos) → IsValidLine t.arcs (table_as_map t) us → StitchTo t.arcs us l → IsListOfLine t.arcs (table_as_map t) l us)
    × ((r : List Pos) → IsValidRing position_cmp t.arcs us → StitchTo t.arcs us (closed r) → IsReadRing position_cmp t.arcs r us)
