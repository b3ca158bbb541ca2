-- The box around positions, in absolute numbers (TopoJSON section 3).
use Rattle.std.specs.Int.{int_min, int_max}
use Rattle.std.specs.Prelude.{ℤ, List, [], ◌∷◌, Option, Some, None}
use Rattle.grid.specs.Place.{Transform, IsGridNumber, absolute}
use Rattle.grid.specs.Fits.{absolute_place}
use Rattle.grid.specs.declared.pos.Pos.{Pos}
use Rattle.topo.specs.Parts.{Corners}

-- the box widened by an absolute place
abbrev pub widened_at : Option Corners → ℤ × ℤ → Corners
widened_at None a = (a.0, a.1, a.0, a.1)
widened_at (Some b) a = (int_min b.0 a.0, int_min b.1 a.1, int_max b.2 a.0, int_max b.3 a.1)

-- the two grid numbers of a position
abbrev pub numbers_of : Pos → ℤ × ℤ
numbers_of p = (p.x, p.y)

-- the box widened by the place of each position
abbrev pub box_by : (Pos → ℤ × ℤ) → Option Corners → List Pos → Option Corners
box_by index b [] = b
box_by index b (p ∷ ps) = box_by index (Some (widened_at b (index p))) ps

-- the box widened by a position [TopoJSON, 3]
abbrev pub widened : Transform → Option Corners → Pos → Corners
widened g b p = widened_at b (absolute_place g p)

-- the box widened by each position [TopoJSON, 3]
abbrev pub box_from : Transform → Option Corners → List Pos → Option Corners
box_from g b ps = box_by (absolute_place g) b ps

-- the least box around the positions, none where there is no position [TopoJSON, 3]
abbrev pub box_of : Transform → List Pos → Option Corners
box_of g ps = box_from g None ps

-- all four are grid numbers
pub record AreGridNumbers (b : Corners) : Type 0 where
  pub west : IsGridNumber b.0
  pub south : IsGridNumber b.1
  pub east : IsGridNumber b.2
  pub north : IsGridNumber b.3

-- corners in absolute numbers
abbrev pub absolute_corners : Transform → Corners → Corners
absolute_corners g b = (absolute g.x b.0, absolute g.y b.1, absolute g.x b.2, absolute g.y b.3)
