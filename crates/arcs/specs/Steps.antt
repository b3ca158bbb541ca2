-- Steps along lists of positions, each from a position to the next one.
use Rattle.std.specs.Prelude.{List, [], ◌∷◌, Option, Some, None, unwrap_or}
use Rattle.std.specs.Ordering.{ord_min, ordering_then}
use Rattle.std.specs.declared.cmp.Ordering.{Ordering}
use Rattle.theory.specs.ArcNumbers.{ArcRef, along}
use Rattle.grid.specs.declared.pos.Pos.{Pos}
use Rattle.lines.specs.Turned.{position_cmp}
use Rattle.arcs.specs.declared.step.ArcStep.{ArcStep}

-- the step from p to q, and the one back
abbrev pub step : Pos → Pos → ArcStep
step p q = record { from = p; to = q }

abbrev pub step_back : Pos → Pos → ArcStep
step_back p q = step q p

-- by where steps begin, then by where they end
abbrev pub step_cmp : ArcStep → ArcStep → Ordering
step_cmp s t = ordering_then (position_cmp s.from t.from) (position_cmp s.to t.to)

-- the first step along a list
abbrev pub first_of : List Pos → Option ArcStep
first_of [] = None
first_of (p ∷ []) = None
first_of (p ∷ (q ∷ l)) = Some (step p q)

-- the first step along a used arc [TopoJSON, 2.1.4]
abbrev pub step_along : List (List Pos) → ArcRef → Option ArcStep
step_along arcs a = first_of (unwrap_or (along arcs a) [])

-- the least of s and the steps, or those back, from each position of p ∷ l to the next one
abbrev pub least_from : (Pos → Pos → ArcStep) → ArcStep → Pos → List Pos → ArcStep
least_from way s p [] = s
least_from way s p (q ∷ l) = least_from way (ord_min step_cmp s (way p q)) q l
