-- The laws of arcs that are cut again under the junctions of two maps together.
use Rattle.std.specs.Prelude.{◌≡◌, ℕ, List, Some, slice_get, ◌⊎◌}
use Rattle.theory.specs.ArcNumbers.{ArcRef, Uses, UsesOnce}
use Rattle.theory.specs.Geometry.{Geometry, IsSound, JunctionOf, SegmentOf}
use Rattle.theory.specs.Lists.{Beside}
use Rattle.theory.specs.Refinement.{ArePiecesOfArc, IsUnionOf, pieces_at}
use Rattle.grid.specs.declared.pos.Pos.{Pos}
use Rattle.lines.specs.Turned.{position_cmp}
use Rattle.arcs.specs.Arcs.{Arcs}
use Rattle.split_heal.specs.Cutting.{IsRecutOf}
use Rattle.split_heal.specs.SplitParts.{RecutParts}

-- junctions only grow
abbrev pub JunctionsOfBoth : Type 0
JunctionsOfBoth = (m n u : Geometry Pos) → IsUnionOf m n u → (v : Pos) → JunctionOf m v ⊎ JunctionOf n v → JunctionOf u v

-- used arcs that stitch to an arc of g, or, where it is free, to it turned as a ring, are its pieces
abbrev pub HaveOnePieces : Geometry Pos → Geometry Pos → Arcs → List (List Pos) → List (List ArcRef) → Type 0
HaveOnePieces g u old table pieces =
    (i : ℕ) (c : List Pos) (used : List ArcRef) → slice_get old.arcs i ≡ Some c → ArePiecesOfArc position_cmp (JunctionOf g) (JunctionOf u) table c used →
    slice_get pieces i ≡ Some used

-- each old arc has one list of pieces
abbrev pub OnePieces : Type 0
OnePieces =
    (m n u : Geometry Pos) → IsSound m → IsSound n → IsUnionOf m n u → (left right : Arcs) (r : RecutParts) → IsRecutOf m n u left right r →
    HaveOnePieces m u left r.arcs.arcs r.left × HaveOnePieces n u right r.arcs.arcs r.right

-- arc k, which is d, is a piece of one old arc of g, at one place, and all its segments are those of that arc, and of g
pub record IsOfOneArc (g : Geometry Pos) (old : Arcs) (pieces : List (List ArcRef)) (k : ℕ) (d : List Pos) : Type 0 where
  pub number : ℕ
  pub arc : List Pos
  pub there : slice_get old.arcs number ≡ Some arc
  pub piece : Uses k (pieces_at pieces number)
  pub once : UsesOnce (pieces_at pieces number)
  pub alone : (j : ℕ) → Uses k (pieces_at pieces j) → j ≡ number
  pub within : (v w : Pos) → Beside v w d → Beside v w arc
  pub whole : (v w : Pos) → Beside v w d → SegmentOf g v w

-- an arc of the union that has a segment of one of the maps is a piece of one of its arcs, and has no other segments
abbrev pub ArcsOfOneArc : Type 0
ArcsOfOneArc =
    (m n u : Geometry Pos) → IsSound m → IsSound n → IsUnionOf m n u → (left right : Arcs) (r : RecutParts) → IsRecutOf m n u left right r →
    (k : ℕ) (d : List Pos) (a b : Pos) → slice_get r.arcs.arcs k ≡ Some d → Beside a b d →
    (SegmentOf m a b → IsOfOneArc m left r.left k d) × (SegmentOf n a b → IsOfOneArc n right r.right k d)

-- each arc of the union is a piece of an old arc
abbrev pub NoOtherArcs : Type 0
NoOtherArcs =
    (m n u : Geometry Pos) → IsSound m → IsSound n → IsUnionOf m n u → (left right : Arcs) (r : RecutParts) → IsRecutOf m n u left right r →
    (k : ℕ) (d : List Pos) → slice_get r.arcs.arcs k ≡ Some d →
    ((i : ℕ) × Uses k (pieces_at r.left i)) ⊎ ((i : ℕ) × Uses k (pieces_at r.right i))
