-- Arcs and the pieces that stitch to them.
use Rattle.std.specs.Prelude.{◌≡◌, ◌⊎◌, ℕ, List, [], ◌∷◌, Some, slice_get}
use Rattle.grid.specs.declared.pos.Pos.{Pos}
use Rattle.theory.specs.ArcNumbers.{ArcRef, StitchFrom, StitchTo}
use Rattle.theory.specs.Lists.{Pairwise}
use Rattle.theory.specs.Refinement.{pieces_at}

-- the used arcs stitch, from the first position, to the others [TopoJSON, 2.1.4]
abbrev pub StitchOn : List (List Pos) → List ArcRef → List Pos → Type 0
StitchOn table used [] = ⊥
StitchOn table used (x ∷ r) = StitchFrom table x used r

-- there are no pieces, or they stitch to the arc [TopoJSON, 2.1.4]
abbrev pub ArePieces : List (List Pos) → List Pos → List ArcRef → Type 0
ArePieces table c ps = (ps ≡ []) ⊎ StitchTo table ps c

-- the same of each arc [TopoJSON, 2.1.4]
abbrev pub AreSplit : List (List Pos) → List (List Pos) → List (List ArcRef) → Type 0
AreSplit table arcs pieces = Pairwise (ArePieces table) arcs pieces

-- the pieces of each new arc stitch to it [TopoJSON, 2.1.4]
abbrev pub AreJoinedOf : List (List Pos) → List (List Pos) → List (List ArcRef) → Type 0
AreJoinedOf table arcs pieces = (i : ℕ) (c : List Pos) → slice_get arcs i ≡ Some c → StitchTo table (pieces_at pieces i) c
