-- Lists of used arcs by the first steps along them.
use Rattle.std.specs.Prelude.{Bool, true, false, cond, List, [], ◌∷◌, Option, Some, None}
use Rattle.std.specs.Ordering.{is_lt}
use Rattle.grid.specs.declared.pos.Pos.{Pos}
use Rattle.theory.specs.ArcNumbers.{ArcRef}
use Rattle.arcs.specs.Steps.{step_along, step_cmp}
use Rattle.arcs.specs.declared.step.ArcStep.{ArcStep}

-- whether there is a step that comes before another one
abbrev pub before_if : Option ArcStep → ArcStep → Bool
before_if None t = false
before_if (Some s) t = is_lt (step_cmp s t)

-- whether no used arc starts before a step
abbrev pub none_starts : List (List Pos) → ArcStep → List ArcRef → Bool
none_starts arcs t [] = true
none_starts arcs t (a ∷ refs) = cond (before_if (step_along arcs a) t) false (none_starts arcs t refs)

-- the same of the one that a used arc starts with, where it has one
abbrev pub none_starts_if : List (List Pos) → Option ArcStep → List ArcRef → Bool
none_starts_if arcs None refs = false
none_starts_if arcs (Some t) refs = none_starts arcs t refs

-- whether no used arc starts before the first
abbrev pub starts_least : List (List Pos) → List ArcRef → Bool
starts_least arcs [] = false
starts_least arcs (a ∷ refs) = none_starts_if arcs (step_along arcs a) refs
