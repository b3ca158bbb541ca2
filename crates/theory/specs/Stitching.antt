-- Stitching: lists one after the other, each from the last vertex of the one before; pieces of a line and of a ring.
use Rattle.std.specs.Prelude.{◌≡◌, List, [], ◌∷◌, ◌++◌}
use Rattle.std.specs.declared.cmp.Ordering.{Ordering}
use Rattle.theory.specs.Arcs.{EitherWay}
use Rattle.theory.specs.Geometry.{Geometry, IsChainOf, IsLineOf, IsRingOf, JunctionOf}
use Rattle.theory.specs.LinesAndRings.{closed}
use Rattle.theory.specs.Lists.{Each, last_of}
use Rattle.theory.specs.Seam.{IsTurned}

-- the pieces, one after the other, each from the last vertex of the one before and the first from x, give x ∷ r
-- [TopoJSON, 2.1.4]
abbrev pub Stitched : {V : Type 0} → V → List (List V) → List V → Type 0
Stitched x [] r = r ≡ []
Stitched {V} x (c ∷ cs) r = (q : List V) × (s : List V) × (c ≡ x ∷ q) × (r ≡ q ++ s) × Stitched (last_of x q) cs s

-- chains of the map that stitch to the list [topojson-server]
abbrev pub ArePiecesOf : {V : Type 0} → (V → V → Ordering) → Geometry V → List V → List (List V) → Type 0
ArePiecesOf cmp g [] ps = ⊥
ArePiecesOf cmp g (x ∷ r) ps = Each (IsChainOf cmp g) ps × Stitched x ps r

-- chains of the map that stitch to the ring read from its seam [topojson-server]
abbrev pub AreRingPiecesOf : {V : Type 0} → (V → V → Ordering) → Geometry V → List V → List (List V) → Type 0
AreRingPiecesOf {V} cmp g r ps = (x : V) × (l : List V) × IsTurned cmp (JunctionOf g) r x l × ArePiecesOf cmp g (closed (x ∷ l)) ps

-- the list of chains has pieces of each line and each ring, in some direction [topojson-server]
pub record HaveAllPieces {V : Type 0} (cmp : V → V → Ordering) (g : Geometry V) (ps : List (List V)) : Type 0 where
  pub of_lines : (l : List V) → IsLineOf g l → (cs : List (List V)) × ArePiecesOf cmp g l cs × Each (EitherWay ps) cs
  pub of_rings : (r : List V) → IsRingOf g r → (cs : List (List V)) × AreRingPiecesOf cmp g r cs × Each (EitherWay ps) cs
