-- What is left of an arc, and of a walk.
use Rattle.std.specs.Prelude.{List, ◌++◌, cond, reverse}
use Rattle.grid.specs.declared.pos.Pos.{Pos}
use Rattle.topo.specs.Walked.{behind}
use Rattle.topo.specs.declared.arc_slice.ArcSlice.TheInside as run
use Rattle.topo.specs.declared.walk.Walk.TheInside as walk

-- the positions that are left of an arc, in the direction of its use
abbrev pub run_left : run.Inside → List Pos
run_left r = cond r.reversed (reverse r.positions.now) r.positions.now

-- the positions that are left, from the front
abbrev pub walk_left : walk.Inside → List Pos
walk_left w = w.front ++ (behind w.arcs.now.arcs w.middle.now ++ w.back)
