-- The steps of a list of positions, each from a position to the next, and a closed list begun at its least step.
use Rattle.std.specs.Prelude.{Bool, cond, ◌&&◌, List, [], ◌∷◌, Option, Some, None}
use Rattle.grid.specs.declared.pos.Pos.{Pos}
use Rattle.lines.specs.Pairs.{position_eq}
use Rattle.arcs.specs.Steps.{least_from, step}
use Rattle.arcs.specs.declared.step.ArcStep.{ArcStep}

-- whether s is the step from x to y
abbrev pub is_step : ArcStep → Pos → Pos → Bool
is_step s x y = position_eq s.from x && position_eq s.to y

-- the least step along a list; none where it has none
abbrev pub least_step : List Pos → Option ArcStep
least_step [] = None
least_step (x ∷ []) = None
least_step (x ∷ (y ∷ l)) = Some (least_from step (step x y) y l)

-- what is behind the step in x ∷ l
abbrev pub behind_from : ArcStep → Pos → List Pos → List Pos
behind_from s x [] = []
behind_from s x (y ∷ l) = cond (is_step s x y) l (behind_from s y l)

-- what is behind the step
abbrev pub behind_step : ArcStep → List Pos → List Pos
behind_step s [] = []
behind_step s (x ∷ l) = behind_from s x l

-- what is in l before the step's second position, where the step is in x ∷ l
abbrev pub up_to_from : ArcStep → Pos → List Pos → List Pos
up_to_from s x [] = []
up_to_from s x (y ∷ l) = cond (is_step s x y) [] (y ∷ up_to_from s y l)

-- what is behind the first position, up to the one that the step leaves
abbrev pub up_to_step : ArcStep → List Pos → List Pos
up_to_step s [] = []
up_to_step s (x ∷ l) = up_to_from s x l
