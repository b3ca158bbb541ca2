-- Lists of used arcs by what they stitch to: by the first steps along the arcs, those of a ring from its least step on.
use Rattle.std.specs.Prelude.{ℕ, ◌+◌, cond, List, [], ◌∷◌, ◌++◌, Option, None, drop, map, take}
use Rattle.std.specs.Cmp.Lexicographic.{slice_cmp}
use Rattle.std.specs.Option.{option_cmp}
use Rattle.std.specs.Ordering.{is_lt}
use Rattle.std.specs.declared.cmp.Ordering.{Ordering}
use Rattle.grid.specs.declared.pos.Pos.{Pos}
use Rattle.shapes.specs.Order.{form_cmp}
use Rattle.theory.specs.ArcNumbers.{ArcRef}
use Rattle.topo.specs.Bodies.{Body}
use Rattle.arcs.specs.Steps.{step_along, step_cmp}
use Rattle.arcs.specs.declared.step.ArcStep.{ArcStep}
use Rattle.topo.specs.GeometryOrder.Least.{least_at}
use Rattle.topo.specs.declared.geometry_order.least.LeastSteps.{LeastSteps}
use Rattle.topo.specs.declared.geometry_order.lists.Lead.{Lead}

-- where the list goes on behind n used arcs
abbrev pub lead_from : List (Option LeastSteps) → Lead → ℕ → List ArcRef → Lead
lead_from least best n [] = best
lead_from least best n (a ∷ used) =
    lead_from least (cond (is_lt (option_cmp step_cmp (least_at least a) best.step)) (record { step = least_at least a; behind = n + 1 }) best) (n + 1) used

-- the least step of a list of used arcs, of several the first, and the number of arcs up to the one that has it
abbrev pub lead_of : List (Option LeastSteps) → List ArcRef → Lead
lead_of least [] = record { step = None; behind = 0 }
lead_of least (a ∷ used) = lead_from least (record { step = least_at least a; behind = 1 }) 1 used

-- a list from a place on, and then from its first arc up to the place
abbrev pub turned : List ArcRef → ℕ → List ArcRef
turned used n = drop n used ++ take n used

-- the first steps along the arcs of a line
abbrev pub line_key : List (List Pos) → List ArcRef → List (Option ArcStep)
line_key arcs us = map (step_along arcs) us

-- the least step of a ring, and the first steps along its arcs from there
abbrev pub ring_key : List (List Pos) → List (Option LeastSteps) → List ArcRef → List (Option ArcStep)
ring_key arcs least us = (lead_of least us).step ∷ line_key arcs (turned us (lead_of least us).behind)

-- steps, one after the other
abbrev pub steps_cmp : List (Option ArcStep) → List (Option ArcStep) → Ordering
steps_cmp = slice_cmp (option_cmp step_cmp)

-- lists of used arcs by the first steps along them
abbrev pub starts_cmp : List (List Pos) → List ArcRef → List ArcRef → Ordering
starts_cmp arcs us vs = steps_cmp (line_key arcs us) (line_key arcs vs)

-- two lines, by the steps along their arcs
abbrev pub line_refs_cmp : List (List Pos) → List (Option LeastSteps) → List ArcRef → List ArcRef → Ordering
line_refs_cmp arcs least us vs = starts_cmp arcs us vs

-- two rings, by what they are sorted by
abbrev pub ring_refs_cmp : List (List Pos) → List (Option LeastSteps) → List ArcRef → List ArcRef → Ordering
ring_refs_cmp arcs least us vs = steps_cmp (ring_key arcs least us) (ring_key arcs least vs)

-- bodies by their kinds, then by their lists
abbrev pub bodies_cmp : List (List Pos) → List (Option LeastSteps) → Body → Body → Ordering
bodies_cmp arcs least = form_cmp (line_refs_cmp arcs least) (ring_refs_cmp arcs least)
