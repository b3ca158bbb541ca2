-- The least steps along arcs.
use Rattle.std.specs.Prelude.{◌≡◌, cond, List, [], ◌∷◌, Option, Some, None, map, slice_get}
use Rattle.std.specs.Global.{Vec}
use Rattle.grid.specs.declared.pos.Pos.{Pos}
use Rattle.theory.specs.ArcNumbers.{ArcRef}
use Rattle.arcs.specs.Steps.{least_from, step, step_back}
use Rattle.arcs.specs.declared.step.ArcStep.{ArcStep}
use Rattle.topo.specs.declared.geometry_order.least.LeastSteps.{LeastSteps}

-- where the arc goes on from p
abbrev pub least_on : LeastSteps → Pos → List Pos → LeastSteps
least_on best p l = record { forward = least_from step best.forward p l; backward = least_from step_back best.backward p l }

-- the least steps along an arc and against it
abbrev pub least_both : List Pos → Option LeastSteps
least_both [] = None
least_both (p ∷ []) = None
least_both (p ∷ (q ∷ l)) = Some (least_on (record { forward = step p q; backward = step q p }) q l)

-- those of each arc
abbrev pub least_of : List (List Pos) → List (Option LeastSteps)
least_of arcs = map least_both arcs

abbrev pub least_way : Option LeastSteps → ArcRef → Option ArcStep
least_way None a = None
least_way (Some s) a = Some (cond a.reversed s.backward s.forward)

abbrev pub least_if : Option (Option LeastSteps) → ArcRef → Option ArcStep
least_if None a = None
least_if (Some o) a = least_way o a

-- the least step along a used arc, where these are those of the arcs
abbrev pub least_at : List (Option LeastSteps) → ArcRef → Option ArcStep
least_at least a = least_if (slice_get least a.arc) a

-- what is noted, where it is, are the least steps of the arcs
abbrev pub IsLeastOf : List (List Pos) → Option (Vec (Option LeastSteps)) → Type 0
IsLeastOf arcs None = Unit {0}
IsLeastOf arcs (Some v) = v.items ≡ least_of arcs
