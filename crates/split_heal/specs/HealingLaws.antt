-- The laws of arcs that are joined again.
use Rattle.std.specs.Prelude.{◌≡◌, ◌↔◌, ℕ, List, Some, slice_get}
use Rattle.theory.specs.ArcNumbers.{ArcRef, Uses, UsesOnce}
use Rattle.theory.specs.Geometry.{Geometry, IsSound, JunctionOf, SegmentOf}
use Rattle.theory.specs.Lists.{Beside}
use Rattle.theory.specs.Refinement.{ArePiecesOfArc, IsPartOf, pieces_at}
use Rattle.grid.specs.declared.pos.Pos.{Pos}
use Rattle.lines.specs.Turned.{position_cmp}
use Rattle.arcs.specs.Arcs.{Arcs}
use Rattle.split_heal.specs.HealedParts.{HealedParts}
use Rattle.split_heal.specs.Healing.{IsHealedOf}

-- the pieces of a new arc are the only old arcs that stitch to it, or, where it is free, to it turned as a ring
abbrev pub OnePieces : Type 0
OnePieces =
    (g u : Geometry Pos) → IsSound u → IsPartOf g u → (old : Arcs) (r : HealedParts) → IsHealedOf g u old r →
    (i : ℕ) (c : List Pos) (used : List ArcRef) → slice_get r.arcs.arcs i ≡ Some c →
    (slice_get r.pieces i ≡ Some used) ↔ ArePiecesOfArc position_cmp (JunctionOf g) (JunctionOf u) old.arcs c used

-- arc k, which is d, is in one of these lists, at one place of it, and all its segments are those of g
pub record OccursOnce (g : Geometry Pos) (pieces : List (List ArcRef)) (k : ℕ) (d : List Pos) : Type 0 where
  pub number : ℕ
  pub there : Uses k (pieces_at pieces number)
  pub once : UsesOnce (pieces_at pieces number)
  pub alone : (j : ℕ) → Uses k (pieces_at pieces j) → j ≡ number
  pub whole : (v w : Pos) → Beside v w d → SegmentOf g v w

-- an old arc that has a segment of what is left is at one place of one list, and all its segments stay
abbrev pub KeptArcsOccurOnce : Type 0
KeptArcsOccurOnce =
    (g u : Geometry Pos) → IsSound u → IsPartOf g u → (old : Arcs) (r : HealedParts) → IsHealedOf g u old r →
    (k : ℕ) (d : List Pos) (v w : Pos) → slice_get old.arcs k ≡ Some d → Beside v w d → SegmentOf g v w → OccursOnce g r.pieces k d

-- one that has none is in no list
abbrev pub OthersOccurNowhere : Type 0
OthersOccurNowhere =
    (g u : Geometry Pos) → IsSound u → IsPartOf g u → (old : Arcs) (r : HealedParts) → IsHealedOf g u old r →
    (k : ℕ) (d : List Pos) → slice_get old.arcs k ≡ Some d → ((v w : Pos) → Beside v w d → ¬ SegmentOf g v w) → (i : ℕ) → ¬ Uses k (pieces_at r.pieces i)
