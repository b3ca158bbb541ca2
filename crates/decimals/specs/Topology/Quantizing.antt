-- Positions and arcs in the numbers of another transform.
use Rattle.std.specs.Prelude.{ℤ, pos, ◌-ℤ◌, Bool, ◌&&◌, if◌then◌else◌, List, [], ◌∷◌}
use Rattle.std.specs.Ordering.{int_eq}
use Rattle.grid.specs.Place.{absolute}
use Rattle.grid.specs.declared.pos.Pos.{Pos}
use Rattle.decimals.specs.Topology.QuantizedAxis.{number_on}
use Rattle.decimals.specs.declared.topology.quantizer.Quantizer.{Quantizer}

-- the numbers of a position in x and in y
abbrev pub numbers_on : Quantizer → Pos → ℤ × ℤ
numbers_on q p = (number_on q.x (absolute q.grid.x p.x), number_on q.y (absolute q.grid.y p.y))

-- the numbers of a position less those of the one before [TopoJSON, 2.1.3]
abbrev pub step : ℤ × ℤ → ℤ × ℤ → ℤ × ℤ
step before here = (here.0 -ℤ before.0, here.1 -ℤ before.1)

-- both have the same numbers
abbrev pub are_same : ℤ × ℤ → ℤ × ℤ → Bool
are_same a b = int_eq a.0 b.0 && int_eq a.1 b.1

-- the steps along positions, none of them of zero [as topoquantize]
abbrev pub steps_from : (Pos → ℤ × ℤ) → ℤ × ℤ → List Pos → List (ℤ × ℤ)
steps_from f before [] = []
steps_from f before (p ∷ ps) = if are_same before (f p) then steps_from f before ps else step before (f p) ∷ steps_from f (f p) ps

-- a step of zero where there is none, since an arc has two positions [TopoJSON, 2.1.3]
abbrev pub some_step : List (ℤ × ℤ) → List (ℤ × ℤ)
some_step [] = (pos 0, pos 0) ∷ []
some_step (s ∷ ss) = s ∷ ss

-- an arc: the numbers of its first position, and the steps from there [TopoJSON, 2.1.3; as topoquantize]
abbrev pub arc_numbers : (Pos → ℤ × ℤ) → List Pos → List (ℤ × ℤ)
arc_numbers f [] = []
arc_numbers f (p ∷ ps) = f p ∷ some_step (steps_from f (f p) ps)
